pub mod Lists
pub mod Members
pub mod Numbers
pub mod Options
pub mod Truths
