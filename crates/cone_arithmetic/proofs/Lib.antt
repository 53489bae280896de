pub mod EntryLemmas
pub mod FillLemmas
pub mod PartLemmas
pub mod OrderLemmas
pub mod UnitLemmas
