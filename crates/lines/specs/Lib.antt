pub mod Text
pub mod Justified
