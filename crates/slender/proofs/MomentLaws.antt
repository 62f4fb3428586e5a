-- The moments' printed fractions, reduced, their bounds, the two laws of each rounding, and how far above the unrounded moments they are.
-- Assumes nothing.
use mathlib.Core.Path.{◌≡◌}
use Prim.Native.Nat.{ℕ, suc, ◌+◌, ◌-◌, ◌*◌, ◌^◌, ◌≤◌, ◌<◌}
use native.Mathlib.Nat.{le_of_lt, lt_of_mul-lt-mul_right, mul-le-mul, mul-le-mul_left, mul-le-mul_right, mul-lt-mul_of_pos_right, mul-pos}
use native.Mathlib.Omega.{arith}
use Rattle.exact.specs.Quotient.{Ratio, whole, plus, AtLeast, up_of}
use Rattle.exact.specs.Fraction.{times, ◌≤ʳ◌}
use Rattle.exact.specs.Root.{LeastRoot, AtLeastRoot}
use Rattle.exact.proofs.RootLaws.{root_up_is}
use Rattle.exact.proofs.SquaresLaws.{root_of_rounded}
use Rattle.exact.proofs.QuotientLaws.{rounded_up, up_least, up_same}
use Rattle.exact.proofs.FractionLaws.{≤ʳ-refl, ≤ʳ-trans, times_le, plus_le}
use Rattle.fields.specs.Units.{thousandths}
use Rattle.slender.specs.declared.tank.Contents.{Contents}
use Rattle.slender.specs.declared.tank.SlenderTank.{SlenderTank}
use Rattle.slender.specs.declared.tank.Accelerations.{Accelerations}
use Rattle.slender.specs.Weights.{impulsive_exact, impulsive_weight, impulsive_height, convective_exact, convective_weight, convective_height}
use Rattle.slender.specs.Moments.{load_moment, impulsive_with, impulsive_moment, convective_with, convective_moment, moments_squared, moment_of, unrounded_square}
use Rattle.slender.specs.Question.{thousandths_of_g, margin}
use Rattle.slender.specs.Bounds.{Slender, TankIn, AccelerationsIn, most_impulsive_moment, most_convective_moment}
use Rattle.slender.proofs.WeightLaws.{level_above, impulsive_above, impulsive_most, impulsive_rounded, convective_above, convective_most, convective_rounded}

-- A figure g that is at most e above h, rounded up: it is at least h, and less than one more than e above it.
rounded_after : (h g : Ratio) (e n : ℕ) → 0 < h.den → 0 < g.den → h ≤ʳ g → g ≤ʳ plus h (whole e) → AtLeast g (whole 1) n → AtLeast h (whole (suc e)) n
rounded_after h g e n dh dg le near a =
    record {
      safe = omega (arith, ≤ʳ-trans h g (whole n) dg le (omega (arith, a.safe)));
      near = lt_of_mul-lt-mul_right g.den (omega (arith, near, mul-lt-mul_of_pos_right a.near dh));
    }

-- A (S + w X) with w rounded up to a whole number: it grows by at most A X.
module _ (A S X w : Ratio) (r : ℕ) (a : AtLeast w (whole 1) r) where
  abbrev of_weight : Ratio → Ratio
  of_weight w = times A (plus S (times w X))

  grows : of_weight w ≤ʳ of_weight (whole r)
  grows = times_le A A (plus S (times w X)) (plus S (times (whole r) X)) (≤ʳ-refl A)
      (plus_le S (times w X) (times (whole r) X) (times_le w (whole r) X X (omega (arith, a.safe)) (≤ʳ-refl X)))

  grows_little : (e : ℕ) → times A X ≤ʳ whole e → of_weight (whole r) ≤ʳ plus (of_weight w) (whole e)
  grows_little e slope =
      omega (
        arith,
        mul-le-mul_left (A.den * S.den * X.den * (A.num * S.den * X.num)) (le_of_lt a.near),
        mul-le-mul_left (A.den * S.den * X.den * S.den * w.den) slope,
      )

module _ (t : SlenderTank) (s : TankIn t) (Ai : ℕ) (a : Ai ≤ thousandths_of_g.greatest) where
  abbrev c : Contents
  c = t.contents

  -- X_i in thousandths of a hundredth of an inch: 32 feet at the most
  abbrev height : ℕ
  height = 500 * c.level - 94 * c.diameter

  height_left : 5 * (1000 * c.level) - 94 * c.diameter * 10 ≡ 10 * height
  height_left = omega arith

  height_most : height ≤ 38400000
  height_most = omega (arith, s.contents.level.1)

  above : (w : Ratio) → 0 < w.den → 0 < (impulsive_with t Ai w).den
  unfolding impulsive_with impulsive_height
  above w d = omega (arith, mul-pos d (level_above c s.contents))

  abbrev sum : ℕ
  sum = 1000 * (t.shell.weight * t.shell.height + t.roof.weight * t.roof.height) + impulsive_weight c * height

  pub impulsive_moment_reduced : impulsive_moment t Ai ≡ up_of (Ai * sum) 1200000000
  unfolding impulsive_moment impulsive_with impulsive_height
  impulsive_moment_reduced =
      up_same _ _ _ _ (above (whole (impulsive_weight c)) (omega arith)) (omega arith) (rw height_left (omega arith))

  sum_most : sum ≤ 2688000000000000
  sum_most =
      omega (
        arith,
        mul-le-mul (impulsive_most c s.contents) height_most,
        mul-le-mul s.shell.weight.1 s.shell.height,
        mul-le-mul s.roof.weight.1 s.roof.height,
      )

  pub impulsive_moment_bound : up_of (Ai * sum) 1200000000 ≤ most_impulsive_moment
  impulsive_moment_bound = up_least _ _ (omega arith) most_impulsive_moment (omega (arith, mul-le-mul a sum_most))

  impulsive_moment_most : impulsive_moment t Ai ≤ most_impulsive_moment
  impulsive_moment_most = rw impulsive_moment_reduced impulsive_moment_bound

  pub impulsive_moment_rounded : AtLeast (impulsive_with t Ai (whole (impulsive_weight c))) (whole 1) (impulsive_moment t Ai)
  unfolding impulsive_moment
  impulsive_moment_rounded = rounded_up (impulsive_with t Ai (whole (impulsive_weight c))) (above (whole (impulsive_weight c)) (omega arith))

  -- a pound more of the impulsive weight is 32 foot-pounds more at the most
  slope : times (thousandths Ai) (impulsive_height c) ≤ʳ whole 32
  unfolding impulsive_height
  slope = rw height_left (omega (arith, mul-le-mul_right c.level (mul-le-mul a height_most)))

  pub impulsive_moment_near : AtLeast (impulsive_with t Ai (impulsive_exact c)) (whole 33) (impulsive_moment t Ai)
  unfolding impulsive_with
  impulsive_moment_near =
      let dead = plus (load_moment t.shell) (load_moment t.roof) in
      let up = impulsive_rounded c s.contents in
      rounded_after (impulsive_with t Ai (impulsive_exact c)) (impulsive_with t Ai (whole (impulsive_weight c))) 32 (impulsive_moment t Ai)
      (above (impulsive_exact c) (impulsive_above c s.contents)) (above (whole (impulsive_weight c)) (omega arith))
      (grows (thousandths Ai) dead (impulsive_height c) (impulsive_exact c) (impulsive_weight c) up)
      (grows_little (thousandths Ai) dead (impulsive_height c) (impulsive_exact c) (impulsive_weight c) up 32 slope)
      impulsive_moment_rounded

module _ (c : Contents) (s : Slender c) (Ac : ℕ) (a : Ac ≤ thousandths_of_g.greatest) where
  above_c : (w : Ratio) → 0 < w.den → 0 < (convective_with c Ac w).den
  unfolding convective_with
  above_c w d = omega (arith, d)

  pub convective_moment_reduced : convective_moment c Ac ≡ up_of (Ac * convective_weight c * c.level) 1200000
  unfolding convective_moment convective_with
  convective_moment_reduced = up_same _ _ _ _ (above_c (whole (convective_weight c)) (omega arith)) (omega arith) (omega arith)

  pub convective_moment_bound : up_of (Ac * convective_weight c * c.level) 1200000 ≤ most_convective_moment
  convective_moment_bound = up_least _ _ (omega arith) most_convective_moment (omega (arith, mul-le-mul (mul-le-mul a (convective_most c s)) s.level.1))

  convective_moment_most : convective_moment c Ac ≤ most_convective_moment
  convective_moment_most = rw convective_moment_reduced convective_moment_bound

  pub convective_moment_rounded : AtLeast (convective_with c Ac (whole (convective_weight c))) (whole 1) (convective_moment c Ac)
  unfolding convective_moment
  convective_moment_rounded = rounded_up (convective_with c Ac (whole (convective_weight c))) (above_c (whole (convective_weight c)) (omega arith))

  slope_c : times (thousandths Ac) (convective_height c) ≤ʳ whole 64
  slope_c = omega (arith, mul-le-mul a s.level.1)

  pub convective_moment_near : AtLeast (convective_with c Ac (convective_exact c)) (whole 65) (convective_moment c Ac)
  unfolding convective_with
  convective_moment_near =
      let up = convective_rounded c s in
      rounded_after (convective_with c Ac (convective_exact c)) (convective_with c Ac (whole (convective_weight c))) 64 (convective_moment c Ac)
      (above_c (convective_exact c) (convective_above c s)) (above_c (whole (convective_weight c)) (omega arith))
      (omega (arith, grows (thousandths Ac) (whole 0) (convective_height c) (convective_exact c) (convective_weight c) up))
      (omega (arith, grows_little (thousandths Ac) (whole 0) (convective_height c) (convective_exact c) (convective_weight c) up 64 slope_c))
      convective_moment_rounded

module _ (t : SlenderTank) (s : TankIn t) (g : Accelerations) (a : AccelerationsIn g) where
  squares_most : moments_squared t g ≤ 5427200000000000000
  unfolding moments_squared
  squares_most =
      let i = impulsive_moment_most t s g.impulsive a.impulsive in
      let c = convective_moment_most t.contents s.contents g.convective a.convective in
      omega (arith, mul-le-mul i i, mul-le-mul c c)

  pub moment_root : LeastRoot (moments_squared t g) (moment_of t g)
  unfolding moment_of
  moment_root = root_up_is (moments_squared t g) (omega (arith, squares_most))

  pub moment_fits : moment_of t g < 2 ^ 32
  moment_fits = omega (arith, moment_root.least 2400000000 (omega (arith, squares_most)))

  -- 33 and 65 are the sides of a right triangle with a third below 73
  pub moment_near : AtLeastRoot (unrounded_square t g) margin (moment_of t g)
  unfolding unrounded_square moments_squared
  moment_near =
      root_of_rounded _ _ (above t s g.impulsive a.impulsive (impulsive_exact t.contents) (impulsive_above t.contents s.contents))
      (above_c t.contents s.contents g.convective a.convective (convective_exact t.contents) (convective_above t.contents s.contents))
      (impulsive_moment t g.impulsive) (convective_moment t.contents g.convective) 33 65 73 margin (moment_of t g)
      (impulsive_moment_near t s g.impulsive a.impulsive) (convective_moment_near t.contents s.contents g.convective a.convective)
      moment_root (omega arith) (omega arith)

-- what the code needs
pub ruleset moment_laws = (impulsive_moment_reduced, impulsive_moment_bound, convective_moment_reduced, convective_moment_bound)
