pub mod Whole
pub mod Linking
pub mod RetainedEnds
pub mod Invariance
