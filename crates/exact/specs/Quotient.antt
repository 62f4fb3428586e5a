-- A quotient of whole numbers, rounded to a stated side, and what is then known of it. The divisor is above 0 wherever these are used.
-- `proofs/QuotientLaws.antt` and `proofs/SignedLaws.antt` have the laws.
use Rattle.std.specs.Prelude.{ℕ, suc, ◌+◌, ◌-◌, ◌*◌, ◌/◌, ◌≤◌, ◌<◌, ℤ, pos, negsuc, neg_ℤ, ◌+ℤ◌, ◌*ℤ◌, ◌≤ℤ◌, ◌<ℤ◌}

-- rounded down
abbrev pub down_of : ℕ → ℕ → ℕ
down_of n d = n / d

-- rounded up
unfoldable pub up_of : ℕ → ℕ → ℕ
up_of n d = (n + (d - 1)) / d

-- rounded up to a multiple of k
unfoldable pub up_to : ℕ → ℕ → ℕ → ℕ
up_to k n d = k * up_of n (k * d)

-- A signed number over a whole one, rounded toward the greater number: below zero that is the size rounded down.
unfoldable pub up_ℤ : ℤ → ℕ → ℤ
unfolding up_of
up_ℤ (pos n) d = pos (up_of n d)
up_ℤ (negsuc n) d = neg_ℤ (pos (down_of (suc n) d))

-- a number, or 0 if it is negative
abbrev pub positive_part : ℤ → ℕ
positive_part (pos n) = n
positive_part (negsuc n) = 0

-- An exact fraction, num / den; with a sign, Ratioℤ.
pub record Ratio : Type 0 where
  pub num : ℕ
  pub den : ℕ

pub record Ratioℤ : Type 0 where
  pub num : ℤ
  pub den : ℕ

abbrev pub whole : ℕ → Ratio
whole n = record { num = n; den = 1 }

-- the sum of two fractions
abbrev pub plus : Ratio → Ratio → Ratio
plus f m = record { num = f.num * m.den + m.num * f.den; den = f.den * m.den }

-- What is known of a figure r that was rounded to the safe side of the fraction f: `safe`, it is on that side, and `near`, it is less than
-- the margin m away. Fractions are compared as whole numbers, after multiplying out their divisors.
pub record AtLeast (f m : Ratio) (r : ℕ) : Type 0 where
  pub safe : f.num ≤ r * f.den
  pub near : r * (plus f m).den < (plus f m).num

pub record AtMost (f m : Ratio) (r : ℕ) : Type 0 where
  pub safe : r * f.den ≤ f.num
  pub near : f.num * m.den < (r * m.den + m.num) * f.den

-- the same with a sign and a margin of one
pub record AtLeastℤ (f : Ratioℤ) (r : ℤ) : Type 0 where
  pub safe : f.num ≤ℤ (r *ℤ pos f.den)
  pub near : (r *ℤ pos f.den) <ℤ (f.num +ℤ pos f.den)
