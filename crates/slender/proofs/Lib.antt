-- The laws that callers' proofs cite.
pub mod RangeLaws
pub mod WeightLaws
pub mod MomentLaws
pub mod QuestionLaws
pub mod Cases
