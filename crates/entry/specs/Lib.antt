pub mod Places
pub mod Rules
pub mod Keeps
pub mod Parts
pub mod Numbers
