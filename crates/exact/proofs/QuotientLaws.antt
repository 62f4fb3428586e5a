-- The laws of the rounded quotients, stated once over the numerator and the divisor.
-- Assumes nothing.
use mathlib.Core.Path.{◌≡◌, sym, ap, ◌∙◌}
use Prim.Native.Nat.{ℕ, ◌+◌, ◌-◌, ◌*◌, ◌/◌, ◌≤◌, ◌<◌}
use native.Mathlib.Nat.{div-div-eq-div-mul, div-mul-le_self, lt-div-mul-add, le-div_iff_mul-le, div-eq_of_lt-le, div-lt_iff_lt-mul, le_of_mul-le-mul_right, le_of_suc-le-suc, le_trans, lt_of_mul-lt-mul_right, mul_comm, mul-div-mul_right, mul-le-mul, mul-le-mul_right, mul-lt-mul_of_pos_right, mul-pos, suc-mul}
use native.Mathlib.Omega.{arith}
use Rattle.std.specs.Int.{div_ceil}
use Rattle.std.proofs.lemmas.Grind.{div_ceil_times}
use Rattle.exact.specs.Quotient.{down_of, up_of, up_to, Ratio, whole, AtLeast, AtMost}

module _ (n d : ℕ) (h : 0 < d) where
  -- Rounded down: at most the quotient, less than one below it, and the greatest such.
  pub down_safe : down_of n d * d ≤ n
  down_safe = div-mul-le_self n d

  pub down_near : n < down_of n d * d + d
  down_near = lt-div-mul-add h

  pub down_greatest : (k : ℕ) → k * d ≤ n → k ≤ down_of n d
  down_greatest k = (le-div_iff_mul-le h).1

  -- Rounded up: at least the quotient, less than one above it, and the least such.
  pub up_safe : n ≤ up_of n d * d
  unfolding up_of
  up_safe = omega (arith, lt-div-mul-add {a = n + (d - 1)} h)

  pub up_near : up_of n d * d < n + d
  unfolding up_of
  up_near = omega (arith, div-mul-le_self (n + (d - 1)) d)

  pub up_least : (k : ℕ) → n ≤ k * d → up_of n d ≤ k
  unfolding up_of
  up_least k l = le_of_suc-le-suc ((div-lt_iff_lt-mul h).1 (omega (arith, suc-mul k d)))

  -- the two bounds leave one number
  pub up_unique : (q : ℕ) → n ≤ q * d → q * d < n + d → q ≡ up_of n d
  unfolding up_of
  up_unique q l m = sym (div-eq_of_lt-le d (omega arith) (omega arith))

  -- it is the library's quotient rounded up
  pub div_ceil_is : div_ceil n d ≡ up_of n d
  div_ceil_is = up_unique (div_ceil n d) (div_ceil_times n d h).0 (div_ceil_times n d h).1

-- A quotient by a product is that by one factor after another, with the same rounding.
pub down_down : (n a b : ℕ) → down_of (down_of n a) b ≡ down_of n (a * b)
down_down n a b = div-div-eq-div-mul n a b

pub up_up : (n a b : ℕ) → 0 < a → 0 < b → up_of (up_of n a) b ≡ up_of n (a * b)
up_up n a b h k =
    let m = up_of n a in
    let q = up_of m b in
    up_unique n (a * b) (omega (arith, mul-le-mul h k)) q
    (le_trans (up_safe n a h) (omega (arith, mul-le-mul_right a (up_safe m b k))))
    (omega (arith, up_near n a h, mul-le-mul_right a (up_near m b k)))

-- One fraction by two pairs of numbers has one quotient.
module _ (n d m e : ℕ) (h : 0 < d) (k : 0 < e) (same : n * e ≡ m * d) where
  pub down_same : down_of n d ≡ down_of m e
  down_same =
      sym (mul-div-mul_right n d k)
      ∙ ap (λ (x : ℕ). x / (d * e)) same
      ∙ ap (λ (x : ℕ). m * d / x) (mul_comm d e)
      ∙ mul-div-mul_right m e h

  pub up_same : up_of n d ≡ up_of m e
  up_same =
      up_unique m e k (up_of n d)
      (le_of_mul-le-mul_right (omega (arith, mul-le-mul_right e (up_safe n d h))) h)
      (lt_of_mul-lt-mul_right d (omega (arith, mul-lt-mul_of_pos_right (up_near n d h) k)))

-- The same of a fraction, as the figures of the rules use it: a margin of one.
pub rounded_up : (f : Ratio) → 0 < f.den → AtLeast f (whole 1) (up_of f.num f.den)
rounded_up f h = record { safe = up_safe f.num f.den h; near = omega (arith, up_near f.num f.den h) }

-- to a multiple of k: a margin of k
pub rounded_up_to : (k : ℕ) (f : Ratio) → 0 < k → 0 < f.den → AtLeast f (whole k) (up_to k f.num f.den)
unfolding up_to
rounded_up_to k f g h =
    let p : 0 < k * f.den = mul-pos g h in
    record { safe = omega (arith, up_safe f.num (k * f.den) p); near = omega (arith, up_near f.num (k * f.den) p) }

-- and nothing else is so near
pub rounded_up_only : (f : Ratio) (r : ℕ) → 0 < f.den → AtLeast f (whole 1) r → r ≡ up_of f.num f.den
rounded_up_only f r h a = up_unique f.num f.den h r a.safe (omega (arith, a.near))

-- and no other multiple of k
pub rounded_up_to_only : (k : ℕ) (f : Ratio) (q : ℕ) → 0 < k → 0 < f.den → AtLeast f (whole k) (k * q) → k * q ≡ up_to k f.num f.den
unfolding up_to
rounded_up_to_only k f q g h a =
    ap (λ (x : ℕ). k * x) (up_unique f.num (k * f.den) (mul-pos g h) q (omega (arith, a.safe)) (omega (arith, a.near)))

pub rounded_down_only : (f : Ratio) (r : ℕ) → 0 < f.den → AtMost f (whole 1) r → r ≡ down_of f.num f.den
rounded_down_only f r h a = sym (div-eq_of_lt-le f.den a.safe (omega (arith, a.near)))

pub rounded_down : (f : Ratio) → 0 < f.den → AtMost f (whole 1) (down_of f.num f.den)
rounded_down f h = record { safe = down_safe f.num f.den h; near = omega (arith, down_near f.num f.den h) }
