pub mod Lookups
pub mod Spellings
pub mod OptionLists
pub mod RequestValues
pub mod Accepted
pub mod Decimals
pub mod Asking
pub mod Worked
