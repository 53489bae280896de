pub mod Properties
pub mod Components
pub mod Lifting
pub mod Answers
pub mod Texts
pub mod Laws
pub mod Entries
