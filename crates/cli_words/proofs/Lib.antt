pub mod OptionsRead
pub mod Texts
