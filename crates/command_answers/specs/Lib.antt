pub mod Reads
pub mod Refusals
pub mod Texts
