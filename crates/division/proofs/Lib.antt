pub mod Shares
pub mod Plain
