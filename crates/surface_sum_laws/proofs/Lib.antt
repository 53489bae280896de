pub mod Solutions
pub mod Compatible
pub mod OneTerm
pub mod DiscColumns
pub mod Parts
pub mod Worked
