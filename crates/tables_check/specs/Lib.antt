pub mod RowKeys
pub mod Latest
pub mod Rules
