pub mod Words
pub mod Verdict
pub mod Method
pub mod Hoop
pub mod Wind
pub mod Bounds
