pub mod SetSums
pub mod SetMasks
pub mod WorstSet
pub mod LimitSteps
pub mod PairTable
pub mod ServedPairs
pub mod ReachSums
pub mod CoverSteps
