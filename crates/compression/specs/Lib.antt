pub mod Compression
pub mod Cases
