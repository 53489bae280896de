pub mod Searches
pub mod Across
pub mod Turns
pub mod Fields
pub mod Generators
