pub mod Laws
pub mod Copies
pub mod Orientable
pub mod Maps
pub mod WorkedPlane
pub mod WorkedOctagon
