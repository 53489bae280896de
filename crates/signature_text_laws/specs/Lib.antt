pub mod Faults
pub mod Parts
pub mod Slots
pub mod Walks
pub mod Texts
pub mod Laws
