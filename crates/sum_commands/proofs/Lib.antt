pub mod Lines
pub mod TermLines
pub mod EachBlock
pub mod Walks
pub mod SumAnswers
pub mod Decomposed
pub mod AddedUp
