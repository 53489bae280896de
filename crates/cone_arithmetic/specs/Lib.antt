pub mod Sparse
pub mod RayEntries
pub mod NarrowEntries
pub mod Combinations
pub mod Faults
pub mod Filled
