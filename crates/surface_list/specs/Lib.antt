pub mod Surfaces
pub mod Bounded
