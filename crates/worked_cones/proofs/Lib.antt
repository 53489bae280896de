pub mod FreeTetrahedron
