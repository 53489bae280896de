pub mod VectorText
pub mod ConeText
