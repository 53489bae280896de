pub mod CappedSums
pub mod ArcSums
pub mod LargeSums
pub mod ColumnsInRange
