-- The two sides of a comparison whose quotient is taken as an f64: whole numbers that an f64 holds exactly, and no division by 0.
use Rattle.std.specs.Prelude.{ℕ, ◌<◌, ◌^◌}

pub record Sides (need capacity : ℕ) : Type 0 where
  pub need_exact : need < 2 ^ 53
  pub capacity_exact : capacity < 2 ^ 53
  pub capacity_above : 0 < capacity
