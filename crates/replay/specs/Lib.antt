pub mod Runs
pub mod Guarantee
