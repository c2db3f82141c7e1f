pub mod Kept
pub mod Parts
pub mod Casts
pub mod Joined
pub mod Ruled
