pub mod EachLine
pub mod Computed
pub mod TextExamples
pub mod DocumentExamples
pub mod BlockExamples
