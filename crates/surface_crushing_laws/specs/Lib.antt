pub mod Laws
pub mod Invariants
