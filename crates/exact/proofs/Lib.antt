-- The laws that callers' proofs cite.
pub mod QuotientLaws
pub mod SignedLaws
pub mod GreatestLaws
pub mod RootLaws
pub mod SquaresLaws
pub mod RatioLaws
pub mod FloatLaws
pub mod FractionLaws
pub mod Products
pub mod Table
