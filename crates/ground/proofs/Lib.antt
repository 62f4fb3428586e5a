-- The laws that callers' proofs cite.
pub mod ChartLaws
pub mod MotionLaws
pub mod Cases
