pub mod QuadOctagons
pub mod Laws
