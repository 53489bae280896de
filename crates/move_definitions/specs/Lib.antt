pub mod Moves
pub mod MoveText
pub mod Grammar
pub mod Certificates
pub mod Laws
pub mod TextLaws
pub mod Undos
pub mod Sessions
