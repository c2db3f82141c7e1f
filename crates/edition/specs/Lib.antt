pub mod Edition
pub mod Lawful
