-- The laws that callers' proofs cite.
pub mod FigureLaws
pub mod LineLaws
pub mod JudgeLaws
pub mod MeetsLaws
pub mod ClaimLaws
pub mod Cases
pub mod Pinned
