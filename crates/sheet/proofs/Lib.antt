-- The laws that callers' proofs cite.
pub mod StepLaws
pub mod ReadLaws
pub mod ReachLaws
pub mod RebuildLaws
pub mod HoldLaws
pub mod LaidLaws
pub mod RunLaws
pub mod CompleteLaws
pub mod AnswerLaws
pub mod WriteLaws
pub mod RoundTrip
