-- Order of exact fractions, and what keeps it.
-- Assumes nothing.
use mathlib.Core.Path.{◌≡◌}
use mathlib.Core.Bool.{true, false}
use Prim.Native.Nat.{ℕ, ◌*◌, ◌<◌}
use native.Mathlib.Nat.{le_of_mul-le-mul_right, le_refl, lt_of_not-le, mul-le-mul, mul-le-mul_left, mul-le-mul_right, not-le_of_lt, pow-le-pow_left, pow-lt-pow_left}
use native.Mathlib.Decide.{dec_le}
use native.Mathlib.Omega.{arith}
use Rattle.std.proofs.lemmas.Nat.{mul-pow}
use borrow.Author.Tests.{le-leb, lt-leb}
use Rattle.exact.specs.Quotient.{Ratio, plus}
use Rattle.exact.specs.Fraction.{times, divided_by, power, ◌≤ʳ◌, at_most}

-- the test of the order
pub at_most_lem : (f g : Ratio) → f ≤ʳ g → at_most f g ≡ true
at_most_lem f g = le-leb (f.num * g.den) (g.num * f.den)

pub not_at_most : (f g : Ratio) → g.num * f.den < f.num * g.den → at_most f g ≡ false
not_at_most f g = lt-leb (f.num * g.den) (g.num * f.den)

pub ≤ʳ-trans : (f g h : Ratio) → 0 < g.den → f ≤ʳ g → g ≤ʳ h → f ≤ʳ h
≤ʳ-trans f g h p a b = le_of_mul-le-mul_right (omega (arith, mul-le-mul_right h.den a, mul-le-mul_right f.den b)) p

pub ≤ʳ-refl : (f : Ratio) → f ≤ʳ f
≤ʳ-refl f = le_refl (f.num * f.den)

pub times_le : (f g h k : Ratio) → f ≤ʳ g → h ≤ʳ k → times f h ≤ʳ times g k
times_le f g h k a b = omega (arith, mul-le-mul a b)

module _ (k f g : Ratio) (le : f ≤ʳ g) where
  pub plus_le : plus k f ≤ʳ plus k g
  plus_le = omega (arith, mul-le-mul_left (k.den * k.den) le)

  pub divided_le : divided_by f k ≤ʳ divided_by g k
  divided_le = omega (arith, mul-le-mul_left (k.num * k.den) le)

-- Powers: of the larger fraction, and back.
module _ (n : ℕ) (f g : Ratio) where
  pub power_le : f ≤ʳ g → power f n ≤ʳ power g n
  power_le le = rw (← mul-pow f.num g.den n, ← mul-pow g.num f.den n) (pow-le-pow_left le n)

  pub le_of_power : 0 < n → power f n ≤ʳ power g n → f ≤ʳ g
  le_of_power p le = decided (dec_le (f.num * g.den) (g.num * f.den))
    where
      decided : Dec (f ≤ʳ g) → f ≤ʳ g
      decided (yes h) = h
      decided (no h) =
          absurd (not-le_of_lt (pow-lt-pow_left {n = n} (lt_of_not-le h) (λ e. omega (arith, e)))
          (rw (mul-pow f.num g.den n, mul-pow g.num f.den n) le))
