pub mod Draws
pub mod Lists
