pub mod VectorLines
pub mod RefusalLines
pub mod LastLine
