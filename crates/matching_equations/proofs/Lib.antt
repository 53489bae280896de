pub mod Terms
pub mod Matched
pub mod ClassRows
