-- The laws that callers' proofs cite.
pub mod TallyLaws
pub mod MeasuredLaws
pub mod PartLaws
pub mod CutLaws
pub mod StreamLaws
pub mod FileLaws
pub mod ReadLaws
pub mod Cases
