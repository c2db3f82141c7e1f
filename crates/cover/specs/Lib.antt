pub mod Sets
pub mod Amounts
pub mod Binding
pub mod Covered
pub mod Given
