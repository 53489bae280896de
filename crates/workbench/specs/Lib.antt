pub mod Runs
pub mod Codes
pub mod Prints
