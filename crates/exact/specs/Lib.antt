pub mod Quotient
pub mod Fraction
pub mod Greatest
pub mod Root
pub mod Sides
