pub mod Orientation
pub mod Links
pub mod Corners
pub mod Skeleton
