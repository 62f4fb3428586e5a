-- The laws that callers' proofs cite.
pub mod NumberLaws
pub mod LayoutLaws
pub mod HeaderLaws
pub mod BackLaws
pub mod Cases
