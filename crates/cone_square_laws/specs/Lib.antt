pub mod Squares
pub mod Determinants
pub mod WorkedDeterminant
pub mod Laws
