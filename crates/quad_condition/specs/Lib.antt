pub mod Partners
pub mod Faults
pub mod Bits
pub mod Marks
