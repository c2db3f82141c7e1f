pub mod Shortfall
pub mod Pool
pub mod Strike
