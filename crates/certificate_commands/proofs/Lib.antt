pub mod MoveLines
pub mod Greatest
pub mod Summed
