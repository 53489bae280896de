pub mod Crossings
pub mod Spreads
pub mod Agreements
