-- The weights' printed fractions, reduced, their bounds, and the two laws of each rounding.
-- Assumes nothing.
use mathlib.Core.Path.{◌≡◌}
use Prim.Native.Nat.{ℕ, ◌-◌, ◌*◌, ◌≤◌, ◌<◌}
use native.Mathlib.Nat.{mul-le-mul}
use native.Mathlib.Omega.{arith}
use lib.Dec.{ltb→lt}
use Rattle.exact.specs.Quotient.{whole, AtLeast, up_of}
use Rattle.exact.proofs.QuotientLaws.{rounded_up, up_least, up_same}
use Rattle.slender.specs.declared.tank.Contents.{Contents}
use Rattle.slender.specs.Weights.{impulsive_exact, impulsive_weight, convective_exact, convective_weight}
use Rattle.slender.specs.Bounds.{Slender, most_impulsive_weight, most_convective_weight}

module _ (c : Contents) (s : Slender c) where
  proportion_below : c.diameter * 1000 < 1333 * c.level
  proportion_below = ltb→lt (c.diameter * 1000) (1333 * c.level) s.slender

  diameter_most : c.diameter ≤ 102374
  diameter_most = omega (arith, proportion_below, s.level.1)

  pub level_above : 0 < c.level
  level_above = omega (arith, s.level.0)

  -- ---- W_i, reduced

  height_left : 1 * (1000 * c.level) - 218 * c.diameter * 1 ≡ 2 * (500 * c.level - 109 * c.diameter)
  height_left = omega arith

  height_most : 500 * c.level - 109 * c.diameter ≤ 38400000
  height_most = omega (arith, s.level.1)

  abbrev impulsive_num : ℕ
  impulsive_num = 923 * c.gravity * c.diameter * c.diameter * (500 * c.level - 109 * c.diameter)

  pub impulsive_above : 0 < (impulsive_exact c).den
  unfolding impulsive_exact
  impulsive_above = omega (arith, level_above)

  pub impulsive_reduced : impulsive_weight c ≡ up_of impulsive_num 16272000000000000
  unfolding impulsive_weight impulsive_exact
  impulsive_reduced = up_same _ _ _ _ impulsive_above (omega arith) (rw height_left (omega arith))

  pub impulsive_bound : up_of impulsive_num 16272000000000000 ≤ most_impulsive_weight
  impulsive_bound =
      up_least _ _ (omega arith) most_impulsive_weight
      (omega (arith, mul-le-mul (mul-le-mul (mul-le-mul s.gravity.1 diameter_most) diameter_most) height_most))

  pub impulsive_most : impulsive_weight c ≤ most_impulsive_weight
  impulsive_most = rw impulsive_reduced impulsive_bound

  pub impulsive_rounded : AtLeast (impulsive_exact c) (whole 1) (impulsive_weight c)
  unfolding impulsive_weight
  impulsive_rounded = rounded_up (impulsive_exact c) impulsive_above

  -- ---- W_c

  abbrev convective_num : ℕ
  convective_num = 21229 * c.gravity * c.diameter * (c.diameter * c.diameter)

  pub convective_above : 0 < (convective_exact c).den
  unfolding convective_exact
  convective_above = omega (arith, level_above)

  pub convective_reduced : convective_weight c ≡ up_of convective_num 3254400000000000
  unfolding convective_weight convective_exact
  convective_reduced = up_same _ _ _ _ convective_above (omega arith) (omega arith)

  pub convective_bound : up_of convective_num 3254400000000000 ≤ most_convective_weight
  convective_bound =
      up_least _ _ (omega arith) most_convective_weight
      (omega (arith, mul-le-mul (mul-le-mul s.gravity.1 diameter_most) (mul-le-mul diameter_most diameter_most)))

  pub convective_most : convective_weight c ≤ most_convective_weight
  convective_most = rw convective_reduced convective_bound

  pub convective_rounded : AtLeast (convective_exact c) (whole 1) (convective_weight c)
  unfolding convective_weight
  convective_rounded = rounded_up (convective_exact c) convective_above

-- what the code needs
pub ruleset weight_laws = (impulsive_reduced, impulsive_bound, convective_reduced, convective_bound)
