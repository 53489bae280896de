pub mod ReadTables
pub mod AnsweredLists
pub mod SignedTables
pub mod PlayedSteps
pub mod Enumerated
pub mod AddedUp
pub mod Decomposed
pub mod SummedUp
pub mod Vectored
pub mod Informed
pub mod EachAnswer
mod Sorting
pub mod LeastExists
pub mod Ordering
pub mod PartRelabellings
pub mod Answers
pub mod Splitting
