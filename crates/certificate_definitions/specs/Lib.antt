pub mod CarriedMoves
pub mod CarriedBack
pub mod Makings
pub mod Answers
pub mod SoFar
