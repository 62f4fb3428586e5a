-- The laws that callers' proofs cite.
pub mod RangeLaws
pub mod BoltLaws
pub mod RefusalLaws
pub mod OrderLaws
