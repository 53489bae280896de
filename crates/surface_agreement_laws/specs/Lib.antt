pub mod VertexSurfaces
pub mod Laws
pub mod SurfaceKinds
pub mod WorkedTable
