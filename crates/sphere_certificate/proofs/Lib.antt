pub mod CheckAnswers
pub mod SphereRow
pub mod Finding
pub mod Descents
