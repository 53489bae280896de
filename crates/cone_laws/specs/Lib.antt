pub mod Unions
pub mod Laws
pub mod Cuts
pub mod Meeting
pub mod WorkedUnion
pub mod Enumerations
pub mod Residuals
