-- The laws that callers' proofs cite.
pub mod Cases
