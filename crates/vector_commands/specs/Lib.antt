pub mod Crushed
pub mod Telling
pub mod Describing
pub mod SmallComponents
