pub mod CertificateLemmas
pub mod LawLemmas
pub mod NodeLemmas
pub mod RunLemmas
pub mod TupleLemmas
pub mod WorkerLemmas
