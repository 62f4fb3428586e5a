pub mod Earthquake
pub mod Anchors
pub mod Bounds
