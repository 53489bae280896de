pub mod Partial
pub mod Sound
pub mod Laws
