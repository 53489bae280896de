pub mod ViewEntries
