-- The laws that callers' proofs cite.
pub mod CompressionLaws
pub mod Promise
pub mod Cases
