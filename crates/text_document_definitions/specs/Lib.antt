pub mod Documents
pub mod Grammar
pub mod ConeGrammar
pub mod Symbols
pub mod TextForms
pub mod Blocks
