pub mod Computed
pub mod SignatureExamples
pub mod RelationExamples
pub mod LongSignatureExample
pub mod CensusLaws
pub mod OneCensus
