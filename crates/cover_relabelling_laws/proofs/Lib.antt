pub mod Lifted
pub mod Composed
pub mod Deck
