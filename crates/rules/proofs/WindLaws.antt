-- The wind pressure and moment are on the safe side of their exact fractions and within their margins. The standard site's answer in
-- document 01's numbers.
-- Assumes nothing.
use mathlib.Core.Path.{◌≡◌, refl}
use mathlib.Core.Bool.{Bool, true, false}
use mathlib.Core.List.{[], ◌∷◌, map}
use Prim.Native.Nat.{ℕ, ◌+◌, ◌*◌, ◌≤◌, ◌<◌}
use native.Mathlib.Nat.{mul-le-mul_right}
use native.Mathlib.Omega.{arith}
use Rattle.exact.specs.Quotient.{AtLeast, whole, up_of}
use Rattle.exact.proofs.QuotientLaws.{up_safe, up_near}
use Rattle.fields.specs.Range.{range, between, within}
use Rattle.rules.specs.Wind.{pressure_exact, pressure_of, moment_exact, moment_of, moment_margin, standard_site, standard_code, site_code_of}

pub pressure_rounded : (Kz I v : ℕ) → AtLeast (pressure_exact Kz I v) (whole 1) (pressure_of Kz I v)
unfolding pressure_exact pressure_of
pressure_rounded Kz I v =
    let n = 6 * Kz * I * v * v in
    let s = up_safe n 390625 (omega arith) in
    let t = up_near n 390625 (omega arith) in
    record { safe = omega arith; near = omega arith }

pressure_den : (Kz I v : ℕ) → (pressure_exact Kz I v).den ≡ 390625
unfolding pressure_exact
pressure_den Kz I v = refl

-- a pressure p within 1 of P / 390,625, and a moment M rounded up from p × A / 345,600,000,000
module _ (P p A M : ℕ) where
  through_safe : P ≤ p * 390625 → p * A ≤ M * 345600000000 → P * A ≤ M * (390625 * 345600000000)
  through_safe h k = omega (arith, mul-le-mul_right A h)

  through_near : p * 390625 < P + 390625 → M * 345600000000 < p * A + 345600000000
      → M * (390625 * 345600000000) < P * A + 390625 * (A + 345600000000)
  through_near h k = omega (arith, mul-le-mul_right A h)

pub moment_rounded : (Kz I v D Hs : ℕ)
    → AtLeast (moment_exact Kz I v D Hs) (moment_margin D Hs) (moment_of (pressure_of Kz I v) D Hs)
unfolding moment_exact moment_margin moment_of
moment_rounded Kz I v D Hs =
    let p = pressure_of Kz I v in
    let P = (pressure_exact Kz I v).num in
    let r = pressure_rounded Kz I v in
    let above : P ≤ p * 390625 = rw (pressure_den Kz I v) at r.safe in
    let close : p * 390625 < P + 390625 = omega (arith, rw (pressure_den Kz I v) at r.near) in
    let n = p * D * Hs * Hs in
    let M = up_of n 345600000000 in
    let A = D * Hs * Hs in
    rw (pressure_den Kz I v)
    (record {
      safe = omega (arith, through_safe P p A M above (omega (arith, up_safe n 345600000000 (omega arith))));
      near = omega (arith, through_near P p A M close (omega (arith, up_near n 345600000000 (omega arith))));
    })

-- the divisors are above 0
pub moment_den : (Kz I v D Hs : ℕ) → 0 < (moment_exact Kz I v D Hs).den
unfolding moment_exact pressure_exact
moment_den Kz I v D Hs = omega arith

pub moment_margin_den : (D Hs : ℕ) → 0 < (moment_margin D Hs).den
unfolding moment_margin
moment_margin_den D Hs = omega arith

-- what the standard site's answer says: the pressure, or refusal 16 with field 7
pub standard_code_lem : (v : ℕ) → site_code_of (standard_site v) ≡ standard_code v
unfolding standard_site standard_code
standard_code_lem v = go (within (range 7) v) refl
  where
    go : (b : Bool) → within (range 7) v ≡ b → site_code_of (standard_site v) ≡ standard_code v
    go true e = rw e
    go false e = rw e

-- the number and the value of the standard site's answer to a speed
abbrev answered : ℕ → ℕ × ℕ
answered v = ((standard_code v).number, (standard_code v).value)

-- at each end of its speeds and one past it, and where document 01 prints a pressure
pub standard_site_printed : map answered (59 ∷ 60 ∷ 96 ∷ 97 ∷ 105 ∷ 150 ∷ 151 ∷ [])
    ≡ (16, 7) ∷ (0, 1800) ∷ (0, 1800) ∷ (0, 1812) ∷ (0, 2123) ∷ (0, 4333) ∷ (16, 7) ∷ []
unfolding standard_code pressure_of up_of within between
standard_site_printed = refl
