-- The printed fraction of the allowed stress, reduced in each of its three ranges; the two laws of its rounding; and that it grows with the
-- coefficient. (It falls where inelastic buckling begins, so nothing is said of its growth with the plate.)
-- Assumes nothing.
use mathlib.Core.Path.{◌≡◌, ap, ◌∙◌}
use mathlib.Core.Bool.{Bool, true, false, cond}
use Prim.Native.Nat.{ℕ, ◌+◌, ◌*◌, ◌≤◌, ◌<◌, ◌^◌}
use native.Mathlib.Nat.{div-le_of_le-mul, lt_of_le_of_lt, mul-le-mul}
use native.Mathlib.Omega.{arith}
use Rattle.exact.specs.Quotient.{Ratio, whole, plus, down_of, AtMost}
use Rattle.exact.specs.Fraction.{◌over◌, times, divided_by, ◌≤ʳ◌, at_most}
use Rattle.exact.proofs.FractionLaws.{at_most_lem, not_at_most, ≤ʳ-trans, ≤ʳ-refl, times_le, plus_le, divided_le}
use Rattle.exact.proofs.QuotientLaws.{rounded_down, rounded_down_only, down_same}
use Rattle.fields.specs.Range.{In}
use Rattle.buckling.specs.Bounds.{most_coefficient, most_net}
use Rattle.fields.specs.Units.{plate_inches, radius}
use Rattle.buckling.specs.Coefficient.{modulus, hundred_thousandths}
use Rattle.buckling.specs.Allowed.{thickness_ratio, elastic_limit, inelastic_limit, elastic, inelastic, plastic, local_buckling, pressure_help, allowed_exact, allowed_of}

-- every divisor is above 0
module _ (D t : ℕ) (d : 0 < D) where
  buckling_parts : 0 < (local_buckling (thickness_ratio D t)).den
  unfolding local_buckling
  buckling_parts = by_range (at_most (thickness_ratio D t) elastic_limit) (at_most (thickness_ratio D t) inelastic_limit)
    where
      by_range : (a b : Bool) → 0 < (cond a (elastic (thickness_ratio D t)) (cond b (inelastic (thickness_ratio D t)) plastic)).den
      by_range true b = omega (arith, mul-le-mul (mul-le-mul d d) d)
      by_range false true = omega (arith, d)
      by_range false false = omega arith

  allowed_parts : (c : Ratio) → 0 < c.den → 0 < (allowed_exact c D t).den
  unfolding allowed_exact
  allowed_parts c p = omega (arith, mul-le-mul buckling_parts (mul-le-mul p d))

  -- at most the printed stress, and less than one below it, and the only such number
  pub allowed_rounded : (e : ℕ) → AtMost (allowed_exact (hundred_thousandths e) D t) (whole 1) (allowed_of e D t)
  unfolding allowed_of
  allowed_rounded e = rounded_down (allowed_exact (hundred_thousandths e) D t) (allowed_parts (hundred_thousandths e) (omega arith))

  pub allowed_only : (e r : ℕ) → AtMost (allowed_exact (hundred_thousandths e) D t) (whole 1) r → r ≡ allowed_of e D t
  unfolding allowed_of
  allowed_only e r = rounded_down_only (allowed_exact (hundred_thousandths e) D t) r (allowed_parts (hundred_thousandths e) (omega arith))

  -- with a coefficient at most c it is at most the printed stress of c
  grows : (b c : Ratio) → b ≤ʳ c → allowed_exact b D t ≤ʳ allowed_exact c D t
  unfolding allowed_exact
  grows b c le =
      times_le m m (plus F (half b)) (plus F (half c)) (≤ʳ-refl m)
      (plus_le F (half b) (half c)
      (divided_le (whole 2) (pressure_help b D t) (pressure_help c D t)
      (divided_le (radius D) (times (times b modulus) (plate_inches t)) (times (times c modulus) (plate_inches t))
      (times_le (times b modulus) (times c modulus) (plate_inches t) (plate_inches t)
      (times_le b c modulus modulus le (≤ʳ-refl modulus)) (≤ʳ-refl (plate_inches t))))))
    where
      m : Ratio
      m = 1333 over 1000

      F : Ratio
      F = local_buckling (thickness_ratio D t)

      half : Ratio → Ratio
      half c = divided_by (pressure_help c D t) (whole 2)

  pub allowed_below : (e : ℕ) (c : Ratio) → hundred_thousandths e ≤ʳ c → whole (allowed_of e D t) ≤ʳ allowed_exact c D t
  allowed_below e c le =
      ≤ʳ-trans (whole (allowed_of e D t)) (allowed_exact (hundred_thousandths e) D t) (allowed_exact c D t)
      (allowed_parts (hundred_thousandths e) (omega arith)) (omega (arith, (allowed_rounded e).safe)) (grows (hundred_thousandths e) c le)

-- F_L by the test that the code makes
module _ (D t : ℕ) where
  abbrev x : Ratio
  x = thickness_ratio D t

  abbrev above_elastic : Ratio
  above_elastic = cond (at_most x inelastic_limit) (inelastic x) plastic

  is_elastic : 125000 * t ≤ 1943 * D → local_buckling x ≡ elastic x
  unfolding local_buckling
  is_elastic h = ap (λ (b : Bool). cond b (elastic x) above_elastic) (at_most_lem x elastic_limit (omega (arith, h)))

  not_elastic : 1943 * D < 125000 * t → local_buckling x ≡ above_elastic
  unfolding local_buckling
  not_elastic h = ap (λ (b : Bool). cond b (elastic x) above_elastic) (not_at_most x elastic_limit (omega (arith, h)))

  is_inelastic : 1943 * D < 125000 * t → 16 * t ≤ D → local_buckling x ≡ inelastic x
  is_inelastic h k = not_elastic h ∙ ap (λ (b : Bool). cond b (inelastic x) plastic) (at_most_lem x inelastic_limit (omega (arith, k)))

  is_plastic : D < 16 * t → local_buckling x ≡ plastic
  is_plastic h = not_elastic (omega (arith, h)) ∙ ap (λ (b : Bool). cond b (inelastic x) plastic) (not_at_most x inelastic_limit (omega (arith, h)))

module _ (e D t : ℕ) (d : 0 < D) where
  thousand_above : 0 < 1000 * D
  thousand_above = omega (arith, d)

  cube_above : 0 < D * D * D
  cube_above = mul-le-mul (mul-le-mul d d) d

  pub allowed_elastic : 125000 * t ≤ 1943 * D
      → allowed_of e D t ≡ down_of (((350000 + 29 * e) * D * D + 700000000 * t * t) * (1333 * t)) (1000 * D * D * D)
  unfolding allowed_of allowed_exact
  allowed_elastic h = rw (is_elastic D t h) (down_same _ _ _ _ (omega (arith, mul-le-mul cube_above d)) (omega (arith, cube_above)) (omega arith))

  pub allowed_inelastic : 1943 * D < 125000 * t → 16 * t ≤ D
      → allowed_of e D t ≡ down_of (1333 * (5775 * D + (147600 + 29 * e) * t)) (1000 * D)
  unfolding allowed_of allowed_exact
  allowed_inelastic h k = rw (is_inelastic D t h k) (down_same _ _ _ _ (omega (arith, mul-le-mul d d)) thousand_above (omega arith))

  pub allowed_plastic : D < 16 * t → allowed_of e D t ≡ down_of (1333 * (15000 * D + 29 * e * t)) (1000 * D)
  unfolding allowed_of allowed_exact
  allowed_plastic h = rw (is_plastic D t h) (down_same _ _ _ _ (omega (arith, d)) thousand_above (omega arith))

-- the quotient fits 64 bits, its numerator 77
module _ (e D t : ℕ) (h : e ≤ most_coefficient) (d : In 1 D) (k : t ≤ most_net) where
  slope_most : (350000 + 29 * e) * D ≤ 133784880000
  slope_most = mul-le-mul {n₂ = 557437} (omega arith) d.1

  squares_most : (350000 + 29 * e) * D * D + 700000000 * t * t ≤ 34908371200000000
  squares_most = omega (arith, mul-le-mul slope_most d.1, mul-le-mul {n₁ = 700000000 * t} {n₂ = 1400000000000} (omega arith) k)

  numerator_most : ((350000 + 29 * e) * D * D + 700000000 * t * t) * (1333 * t) ≤ 93065717619200000000000
  numerator_most = mul-le-mul {m₂ = 2666000} squares_most (omega arith)

  pub elastic_fits : down_of (((350000 + 29 * e) * D * D + 700000000 * t * t) * (1333 * t)) (1000 * D * D * D) < 2 ^ 64
  elastic_fits = lt_of_le_of_lt (div-le_of_le-mul (1000 * D * D * D) {n = 93065717} (omega (arith, numerator_most, cube))) (omega arith)
    where
      cube : 12000 * 12000 * 12000 ≤ D * D * D
      cube = mul-le-mul (mul-le-mul d.0 d.0) d.0

-- what the code needs
pub ruleset allowed_laws = (allowed_elastic, allowed_inelastic, allowed_plastic, elastic_fits)
