pub mod Trees
pub mod Presentations
pub mod Groups
