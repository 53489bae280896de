pub mod VerdictLines
pub mod Answering
