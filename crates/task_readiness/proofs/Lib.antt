pub mod Satisfied
