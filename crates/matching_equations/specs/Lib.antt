pub mod Matching
pub mod Quads
