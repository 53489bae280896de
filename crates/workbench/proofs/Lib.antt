pub mod RunClauses
pub mod Headlines
pub mod Completeness
mod Responses
pub mod FewSurfaces
pub mod Meant
pub mod Endings
