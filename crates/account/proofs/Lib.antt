pub mod Arrays
pub mod Bounds
pub mod LineParts
pub mod Rows
