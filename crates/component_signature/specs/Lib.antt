pub mod Components
pub mod Entries
