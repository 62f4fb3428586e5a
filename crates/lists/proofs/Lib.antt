-- The laws that callers' proofs cite.
pub mod BoolLaws
pub mod EachLaws
pub mod PadLaws
pub mod SetsLaws
