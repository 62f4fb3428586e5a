-- The one division of two whole floats is the correctly rounded quotient of the whole numbers.
-- Assumes nothing.
use mathlib.Core.Path.{◌≡◌, ap, ◌∙◌, subst}
use mathlib.Core.Bool.{false}
use Prim.Native.Nat.{ℕ, ◌*◌, ◌^◌, ◌≤◌, ◌<◌}
use native.Mathlib.Nat.{le_of_lt, lt_irrefl, mul-pos, zero-mul}
use native.Mathlib.Omega.{arith}
use lib.IntN.{pos}
use lib.Ieee.{Float, nan, inf, fin, Format, binary64, prec, up, down, round, div, of_int}
use lib.Ieee.Back.{round_whole}
use lib.Ieee.Exact.{HasValue}
use lib.Ieee.Fits.{down_pos}
use lib.Ieee.Scale.{round_same}
use borrow.Author.Tests.{ne_eqb}
use Rattle.exact.specs.Sides.{Sides}

-- with X / p for a and Y / q for b
cross : (X Y a b p q : ℕ) → X * 1 ≡ a * p → Y * 1 ≡ b * q → X * q * b ≡ a * (Y * p)
cross X Y a b p q v w =
    let x : X ≡ a * p = omega arith in
    let y : Y ≡ b * q = omega arith in
    rw (x, y) (omega arith)

-- x is a and y is b, both whole and not negative, and b is not 0
quotient : (f : Format) (x y : Float) (a b : ℕ) → 0 < b → HasValue x false a 1 → HasValue y false b 1 → div f x y ≡ round f false a b
unfolding div
quotient f nan y a b p v w = absurd v
quotient f (inf s) y a b p v w = absurd v
quotient f (fin s m e) nan a b p v w = absurd w
quotient f (fin s m e) (inf t) a b p v w = absurd w
quotient f (fin s m e) (fin t n d) a b p v w =
    let Y : ℕ = n * up d in
    let above : 0 < Y = omega (arith, mul-pos p (down_pos d), w.1) in
    rw (v.0, w.0, ne_eqb n 0 (λ z. lt_irrefl 0 (subst (λ (k : ℕ). 0 < k) (ap (λ (k : ℕ). k * up d) z ∙ zero-mul (up d)) above)))
    (round_same f false (m * up e * down d) (Y * down e) a b (mul-pos above (down_pos e)) p
    (cross (m * up e) Y a b (down e) (down d) v.1 w.1))

-- up to 2 ^ prec every whole number is a float, so only the division rounds
pub whole_quotient : (f : Format) (a b : ℕ) → 0 < b → a ≤ 2 ^ prec f → b ≤ 2 ^ prec f
    → div f (of_int f (pos a)) (of_int f (pos b)) ≡ round f false a b
unfolding of_int
whole_quotient f a b p h k = quotient f (round f false a 1) (round f false b 1) a b p (round_whole f false a h) (round_whole f false b k)

-- of two sides that an f64 holds
pub sides_quotient : (a b : ℕ) → Sides a b → div binary64 (of_int binary64 (pos a)) (of_int binary64 (pos b)) ≡ round binary64 false a b
sides_quotient a b s = whole_quotient binary64 a b s.capacity_above (le_of_lt s.need_exact) (le_of_lt s.capacity_exact)
