pub mod Exchanges
pub mod Following
pub mod NewRows
