pub mod WalkOrder
pub mod Spelling
pub mod SignatureText
pub mod Grammar
pub mod Labellings
pub mod LabellingLaws
pub mod Census
