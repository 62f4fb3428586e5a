-- The laws that callers' proofs cite.
pub mod BufferLaws
