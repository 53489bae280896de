pub mod Parts
pub mod Built
