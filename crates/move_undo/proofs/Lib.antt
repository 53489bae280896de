pub mod Words
pub mod WrittenParts
pub mod RecordLaws
