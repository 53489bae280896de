pub mod ClassLines
pub mod EachTable
pub mod Grouping
pub mod LabelLines
