pub mod LineTotals
pub mod OverallParts
