pub mod Computed
pub mod Evaluators
pub mod Signs
pub mod SkeletonExamples
pub mod OneSkeleton
