-- Whole roots: of a quotient rounded down, and of a number rounded up. `proofs/RootLaws.antt` has their laws, `proofs/SquaresLaws.antt` those
-- of the root of two squares.
use Rattle.std.specs.Prelude.{Bool, cond, ℕ, suc, ◌-◌, ◌*◌, ◌/◌, ◌≤◌, leb, ltb}
use Rattle.exact.specs.Quotient.{Ratio, whole}
use Rattle.exact.specs.Fraction.{◌≤ʳ◌, ◌<ʳ◌}
use Rattle.exact.specs.Greatest.{greatest_below}

-- whether the square of n is at most s
abbrev pub square_within : ℕ → ℕ → Bool
square_within s n = leb (n * n) s

-- The greatest n below 2 ^ 32 with factor * n * n at most most: that is, with n * n at most their quotient rounded down.
unfoldable pub root_of : ℕ → ℕ → ℕ
unfolding greatest_below
root_of factor most = greatest_below 32 (square_within (most / factor))

-- The root of s rounded up, for an s below 2 ^ 64: a square gets no one more.
unfoldable pub root_up : ℕ → ℕ
unfolding root_of
root_up s = let r = root_of 1 s in cond (ltb (r * r) s) (suc r) r

-- What is known of a number r that is the root of s rounded up: the least whose square is at least s.
pub record LeastRoot (s r : ℕ) : Type 0 where
  pub safe : s ≤ r * r
  pub least : (n : ℕ) → s ≤ n * n → r ≤ n

-- r is at least the root of the fraction s, and less than m above it. Roots are compared by squares; of an r below m the second is so anyway.
pub record AtLeastRoot (s : Ratio) (m r : ℕ) : Type 0 where
  pub safe : s ≤ʳ whole (r * r)
  pub near : m ≤ r → whole ((r - m) * (r - m)) <ʳ s
