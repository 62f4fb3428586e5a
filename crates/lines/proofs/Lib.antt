-- The laws that callers' proofs cite.
pub mod RefusalLaws
pub mod TextLaws
pub mod WordLaws
