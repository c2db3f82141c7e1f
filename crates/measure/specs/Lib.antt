pub mod Laws
pub mod Levels
pub mod Grouped
pub mod Overall
pub mod Totals
pub mod GroupedLawful
pub mod Lawful
