-- The laws that callers' proofs cite.
pub mod PrintLaws
pub mod Cases
pub mod CutLaws
