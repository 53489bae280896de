pub mod Stars
pub mod Facets
pub mod Faults
pub mod Closed
pub mod Orientable
pub mod Certified
