pub mod Computed
pub mod Kept
pub mod Read
pub mod Shown
pub mod Parted
pub mod Charge
pub mod Calls
