pub mod Automorphisms
pub mod Laws
