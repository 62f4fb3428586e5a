-- The printed fraction of the stress, reduced, and the two laws of its rounding.
-- Assumes nothing.
use mathlib.Core.Path.{◌≡◌}
use Prim.Native.Nat.{ℕ, ◌+◌, ◌*◌, ◌<◌}
use native.Mathlib.Nat.{mul-le-mul}
use native.Mathlib.Omega.{arith}
use Rattle.exact.specs.Quotient.{whole, AtLeast, up_of}
use Rattle.exact.proofs.QuotientLaws.{rounded_up, rounded_up_only, up_same}
use Rattle.buckling.specs.Stress.{stress_exact, stress_of}

module _ (W Av Ms D t : ℕ) (d : 0 < D) (p : 0 < t) where
  parts_above : 0 < (stress_exact W Av Ms D t).den
  unfolding stress_exact
  parts_above = omega (arith, mul-le-mul (mul-le-mul (mul-le-mul d d) d) p)

  reduced_above : 0 < 71 * t * D * D
  reduced_above = omega (arith, mul-le-mul (mul-le-mul d d) p)

  pub stress_reduced : stress_of W Av Ms D t ≡ up_of (8 * (113 * W * (2500 + Av) * D + 1355745000 * Ms)) (71 * t * D * D)
  unfolding stress_of stress_exact
  stress_reduced = up_same _ _ _ _ parts_above reduced_above (omega arith)

  -- at least the printed stress, and less than one above it, and the only such number
  pub stress_rounded : AtLeast (stress_exact W Av Ms D t) (whole 1) (stress_of W Av Ms D t)
  unfolding stress_of
  stress_rounded = rounded_up (stress_exact W Av Ms D t) parts_above

  pub stress_only : (r : ℕ) → AtLeast (stress_exact W Av Ms D t) (whole 1) r → r ≡ stress_of W Av Ms D t
  unfolding stress_of
  stress_only r = rounded_up_only (stress_exact W Av Ms D t) r parts_above
