pub mod MarkedQuads
pub mod CrossingLemmas
pub mod SpreadLemmas
pub mod RoundTurns
pub mod LeastWrong
pub mod LeastHeights
pub mod LiftParts
