pub mod Comparing
pub mod Vectors
pub mod Bounds
pub mod Faults
