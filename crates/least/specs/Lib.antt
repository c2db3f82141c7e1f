pub mod Sources
pub mod Cover
pub mod Laws
pub mod Chains
pub mod SubType
