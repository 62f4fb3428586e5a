-- The laws that callers' proofs cite.
pub mod StressLaws
pub mod PowerLaws
pub mod CoefficientLaws
pub mod AllowedLaws
pub mod Computed
