pub mod State
pub mod Causes
pub mod Owned
pub mod Entries
pub mod Measuring
pub mod Reading
pub mod Claims
pub mod Charging
