pub mod Coefficient
pub mod Stress
pub mod Allowed
pub mod Bounds
