pub mod Enumerations
