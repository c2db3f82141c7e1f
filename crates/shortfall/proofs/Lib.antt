pub mod Bounded
pub mod Helps
pub mod PoolCovered
pub mod TableOrder
pub mod Turns
