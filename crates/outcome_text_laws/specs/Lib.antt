pub mod Lists
pub mod Information
pub mod Descriptions
pub mod Refusals
