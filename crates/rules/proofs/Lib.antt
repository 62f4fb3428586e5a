-- The laws that callers' proofs cite.
pub mod MethodLaws
pub mod HoopLaws
pub mod WindLaws
pub mod VerdictLaws
pub mod Bounds
