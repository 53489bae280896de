pub mod Determined
pub mod AnswerLemmas
pub mod Evaluators
mod PropertyExamples
mod LiftExamples
mod PieceExamples
mod TextExamples
