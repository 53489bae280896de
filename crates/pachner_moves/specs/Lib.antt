pub mod Cores
pub mod Masks
