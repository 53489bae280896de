pub mod Pairs
pub mod Verdicts
pub mod BitLemmas
pub mod MarkLemmas
