pub mod Blocks
pub mod Entries
pub mod AsQuads
pub mod Clashes
pub mod CanonicalParts
pub mod Correspondence
