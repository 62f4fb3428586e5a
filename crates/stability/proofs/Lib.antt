-- The laws that callers' proofs cite.
pub mod EarthquakeLaws
pub mod AnchorLaws
pub mod CheckLaws
pub mod Bounds
