pub mod Steps
pub mod Written
pub mod Records
pub mod Sessions
pub mod Faults
