pub mod Fractions
pub mod Sums
