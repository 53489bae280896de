pub mod Carrying
pub mod Ties
pub mod Marks
pub mod Group
pub mod Unique
