pub mod Listings
pub mod Bounded
