-- The laws that callers' proofs cite.
pub mod DecimalLaws
pub mod PrintedLaws
pub mod StoreLaws
