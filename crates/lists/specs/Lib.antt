pub mod Ascii
pub mod Pad
