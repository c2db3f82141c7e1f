pub mod View
pub mod Lines
pub mod Own
pub mod Account
pub mod Within
