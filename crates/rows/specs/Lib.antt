pub mod Limits
pub mod Codes
pub mod Rows
