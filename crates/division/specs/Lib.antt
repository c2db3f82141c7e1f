pub mod Weighed
pub mod Division
