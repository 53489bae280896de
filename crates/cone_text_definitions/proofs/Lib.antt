pub mod Computed
pub mod VectorLines
