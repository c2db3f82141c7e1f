pub mod CodeRead
pub mod FromFn
