-- The root of the sum of two squares, where both sides were rounded up and then the root: it is at least the unrounded root, and less than a
-- margin above it.
-- Assumes nothing.
use mathlib.Core.Path.{◌≡◌}
use Prim.Native.Nat.{ℕ, ◌+◌, ◌-◌, ◌*◌, ◌≤◌, ◌<◌}
use native.Mathlib.Nat.{le_of_lt, le_of_mul-le-mul_right, lt_of_not-le, mul-le-mul, mul-le-mul_left, mul-le-mul_right, mul-pos}
use native.Mathlib.Decide.{dec_le}
use native.Mathlib.Omega.{arith}
use Rattle.exact.specs.Quotient.{Ratio, whole, plus, AtLeast}
use Rattle.exact.specs.Fraction.{◌over◌, squared, ◌≤ʳ◌}
use Rattle.exact.specs.Root.{LeastRoot, AtLeastRoot}
use Rattle.exact.proofs.RootLaws.{root_lt}

-- twice a product is at most the sum of the squares
twice_product : (x y : ℕ) → 2 * (x * y) ≤ x * x + y * y
twice_product x y = decided (dec_le x y)
  where
    spread : (x d : ℕ) → 2 * (x * (x + d)) ≤ x * x + (x + d) * (x + d)
    spread x d = omega arith

    decided : Dec (x ≤ y) → 2 * (x * y) ≤ x * x + y * y
    decided (yes h) = let e : y ≡ x + (y - x) = omega arith in rw e (spread x (y - x))
    decided (no h) = let e : x ≡ y + (x - y) = omega (arith, lt_of_not-le h) in rw e (omega (arith, spread y (x - y)))

-- a * A + b * B is at most the product of the roots of a * a + b * b and A * A + B * B (Cauchy and Schwarz)
product_of_roots : (a b m A B K : ℕ) → a * a + b * b ≤ m * m → A * A + B * B ≤ K * K → a * A + b * B ≤ m * K
product_of_roots a b m A B K small large =
    omega (arith, root_lt (a * A + b * B) (m * K + 1) (omega (arith, twice_product (a * B) (b * A), mul-le-mul small large)))

-- Over a common divisor D: with A / D and B / D for the sides, less than a and b below I and C, and with k at or above their root.
sides_within : (A B D I C a b m k : ℕ) → I * D ≤ A + a * D → C * D ≤ B + b * D → a * a + b * b ≤ m * m
    → A * A + B * B ≤ k * D * (k * D) → (I * I + C * C) * (D * D) ≤ (k + m) * (k + m) * (D * D)
sides_within A B D I C a b m k above_i above_c small large =
    omega (
      arith,
      mul-le-mul above_i above_i,
      mul-le-mul above_c above_c,
      mul-le-mul_left (2 * D) (product_of_roots a b m A B (k * D) small large),
      mul-le-mul_right (D * D) small,
    )

-- Sides i and c, rounded up to I and C by less than a and b, and M the root of their squares rounded up: it is less than p above the root of
-- the exact squares, where the root of a * a + b * b is below p.
module _ (i c : Ratio) (di : 0 < i.den) (dc : 0 < c.den) (I C a b m p M : ℕ) (rounded_i : AtLeast i (whole a) I) (rounded_c : AtLeast c (whole b) C)
    (root : LeastRoot (I * I + C * C) M) (small : a * a + b * b ≤ m * m) (below : m < p) where
  abbrev exact : Ratio
  exact = plus (squared i) (squared c)

  -- a number at or above the exact root is less than p below M
  not_below : (k : ℕ) → exact ≤ʳ whole (k * k) → M < k + p
  not_below k h = omega (arith, root.least (k + m) within)
    where
      within : I * I + C * C ≤ (k + m) * (k + m)
      within =
          le_of_mul-le-mul_right
          (sides_within (i.num * c.den) (c.num * i.den) (i.den * c.den) I C a b m k
          (omega (arith, mul-le-mul_right c.den (le_of_lt rounded_i.near)))
          (omega (arith, mul-le-mul_right i.den (le_of_lt rounded_c.near)))
          small (omega (arith, h)))
          (mul-pos (mul-pos di dc) (mul-pos di dc))

  pub root_of_rounded : AtLeastRoot exact p M
  root_of_rounded = record { safe = safe; near = λ h. decided (dec_le (exact.num * 1) ((M - p) * (M - p) * exact.den)) h }
    where
      safe : exact ≤ʳ whole (M * M)
      safe =
          omega (
            arith,
            mul-le-mul_right (i.den * i.den * (c.den * c.den)) root.safe,
            mul-le-mul_right (c.den * c.den) (mul-le-mul rounded_i.safe rounded_i.safe),
            mul-le-mul_right (i.den * i.den) (mul-le-mul rounded_c.safe rounded_c.safe),
          )

      decided : Dec (exact.num * 1 ≤ (M - p) * (M - p) * exact.den) → p ≤ M → (M - p) * (M - p) * exact.den < exact.num * 1
      decided (yes k) h = absurd (omega (arith, not_below (M - p) k))
      decided (no f) h = lt_of_not-le f

-- What `AtLeastRoot` says at literal figures, of the roots 100 and 0 and a margin of 100: on either side, and where r is just the margin.
pub around_a_hundred : AtLeastRoot (30000 over 3) 100 100 × AtLeastRoot (30000 over 3) 100 199
    × (AtLeastRoot (30000 over 3) 100 99 → ⊥) × (AtLeastRoot (30000 over 3) 100 200 → ⊥) × (AtLeastRoot (0 over 3) 100 100 → ⊥)
around_a_hundred = (
  record { safe = omega arith; near = λ h. omega arith },
  record { safe = omega arith; near = λ h. omega arith },
  λ a. omega (arith, a.safe),
  λ a. omega (arith, a.near (omega arith)),
  λ a. omega (arith, a.near (omega arith)),
)
