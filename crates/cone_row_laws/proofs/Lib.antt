pub mod Zeros
pub mod Sums
pub mod Agreement
pub mod RedundantRows
pub mod Singles
pub mod Fresh
pub mod Listings
