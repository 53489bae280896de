pub mod ListLemmas
pub mod EightLemmas
