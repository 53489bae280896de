pub mod Valid
pub mod Certified
pub mod BoundaryCurves
pub mod Links
pub mod Manifolds
pub mod ClosedEuler
