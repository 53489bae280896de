pub mod OwnStatus
pub mod CertificateStatus
pub mod ClassTexts
