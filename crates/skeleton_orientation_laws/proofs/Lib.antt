pub mod Reversed
pub mod Chains
pub mod Parities
pub mod Valid
