pub mod Weights
pub mod Moments
pub mod Question
pub mod Bounds
pub mod Cases
