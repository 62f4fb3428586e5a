-- The pull is on the safe side of its exact fraction and within its margin. `strength_safe`: anchors that hold the rounded pull hold the
-- exact one, of any moment up to the one that was rounded up. `strength_near`: anchors that hold the exact pull with its margin, of any
-- moment from the rounded one on, hold the rounded pull.
-- Assumes nothing.
use mathlib.Core.Path.{◌≡◌, refl}
use mathlib.Core.Logic.{◌⊎◌, inl, inr}
use mathlib.Core.Bool.{Bool, true, false, not, cond}
use mathlib.Core.List.{[], ◌∷◌}
use Prim.Native.Nat.{ℕ, ◌+◌, ◌*◌, max, ◌≤◌, ◌<◌}
use native.Mathlib.Nat.{eq-zero-or-pos, mul-le-mul_right, mul-pos, lt_of_not-le}
use native.Mathlib.Decide.{dec_le}
use native.Mathlib.Omega.{arith}
use lib.Dec.{T, ltb, ltb→lt, nltb→le}
use lib.IntN.{ℤ, pos, negsuc, neg_ℤ}
use Rattle.exact.specs.Quotient.{Ratio, whole, up_of, up_ℤ, positive_part, AtLeastℤ}
use Rattle.exact.proofs.SignedLaws.{rounded_up_ℤ, part_safe, part_least, part_near}
use Rattle.stability.specs.Anchors.{reduced_weight, pull_exact, pull_of, pull_margin, larger_pull, Strong}

module _ (moment : ℕ) (w : Ratio) (B N : ℕ) (o : 0 < w.den) (p : 0 < N) (q : 0 < B) where
  abbrev divisor : ℕ
  divisor = w.den * (N * B)

  divisor_above : 0 < divisor
  divisor_above = mul-pos o (mul-pos p q)

  pub pull_rounded : AtLeastℤ (pull_exact moment w B N) (pull_of moment w B N)
  unfolding pull_exact pull_of
  pull_rounded = rounded_up_ℤ (pull_exact moment w B N) divisor_above

  -- the pull that an anchor carries, in whole pounds
  pub pull_safe : 4800 * moment * w.den ≤ w.num * B + positive_part (pull_of moment w B N) * divisor
  unfolding pull_of pull_exact
  pull_safe = part_safe (4800 * moment * w.den) (w.num * B) divisor divisor_above

  pub pull_least : (k : ℕ) → 4800 * moment * w.den ≤ w.num * B + k * divisor → positive_part (pull_of moment w B N) ≤ k
  unfolding pull_of pull_exact
  pull_least = part_least (4800 * moment * w.den) (w.num * B) divisor divisor_above

  pub pull_near : 0 < positive_part (pull_of moment w B N)
      → w.num * B + positive_part (pull_of moment w B N) * divisor < 4800 * moment * w.den + divisor
  unfolding pull_of pull_exact
  pull_near = part_near (4800 * moment * w.den) (w.num * B) divisor divisor_above

-- The weight and the pull at literal numbers, so that no other factor passes in definition and code alike. The pulls: document 01's example
-- by wind; its Ms on the whole weight and at Av 0, 27 (document 02's figure) and 500; twelve anchors; and Ms on 11.9 pounds, where rounding
-- the weight down to a pound would change the first pull and rounding it up the second.
pub weight_computed : reduced_weight 13 373 ≡ record { num = 110604; den = 10000 }
unfolding reduced_weight
weight_computed = refl

pub pulls_computed :
    pull_of 73371 (whole 11000) 14800 6
    ∷ pull_of 30000 (whole 11000) 14800 6
    ∷ pull_of 30000 (reduced_weight 11000 0) 14800 6
    ∷ pull_of 30000 (reduced_weight 11000 27) 14800 6
    ∷ pull_of 30000 (reduced_weight 11000 500) 14800 6
    ∷ pull_of 2000000 (reduced_weight 200000 250) 61000 12
    ∷ pull_of 70 (reduced_weight 14 375) 19200 6
    ∷ pull_of 48 (reduced_weight 14 375) 19200 6
    ∷ []
    ≡ pos 2133 ∷ neg_ℤ (pos 211) ∷ neg_ℤ (pos 211) ∷ neg_ℤ (pos 191) ∷ pos 155 ∷ neg_ℤ (pos 1885) ∷ pos 1 ∷ pos 1 ∷ []
unfolding up_of up_ℤ reduced_weight pull_exact pull_of
pulls_computed = refl

pub pull_margin_den : 0 < pull_margin.den
unfolding pull_margin
pull_margin_den = omega arith

-- over plain numbers: r is the pull, b / v is w × B, d is N × B, and n / e a moment
holds_exact : (r A m b v d n e : ℕ) → n ≤ m * e → 4800 * m * v ≤ b + r * (v * d) → 1000 * r ≤ 19950 * A
    → 1000 * (4800 * n) * v ≤ (19950 * A * d * v + 1000 * b) * e
holds_exact r A m b v d n e h k s = omega (arith, mul-le-mul_right v h, mul-le-mul_right e k, mul-le-mul_right (d * v * e) s)

falls_short : (r A m b v d n e : ℕ) → 0 < e → m * e ≤ n → b + r * (v * d) < 4800 * m * v + v * d → 19950 * A < 1000 * r
    → (19950 * A * d * v + 1000 * b) * e < 1000 * (4800 * n + d * e) * v
falls_short r A m b v d n e p h k s =
    omega (arith, mul-le-mul_right v h, mul-le-mul_right e k, mul-le-mul_right (d * v * e) s, p)

module _ (f : Ratio) (moment : ℕ) (w : Ratio) (B N A : ℕ) (o : 0 < w.den) (p : 0 < N) (q : 0 < B) where
  abbrev pull : ℕ
  pull = positive_part (pull_of moment w B N)

  pub strength_safe : f.num ≤ moment * f.den → 1000 * pull ≤ 19950 * A → Strong f w B N A (whole 0)
  strength_safe h s =
      record {
        strong = omega (arith, holds_exact pull A moment (w.num * B) w.den (N * B) f.num f.den h (pull_safe moment w B N o p q) s);
      }

  pub strength_near : 0 < f.den → moment * f.den ≤ f.num → Strong f w B N A pull_margin → 1000 * pull ≤ 19950 * A
  unfolding pull_margin
  strength_near e h k = go (dec_le (1000 * pull) (19950 * A)) (eq-zero-or-pos pull)
    where
      go : Dec (1000 * pull ≤ 19950 * A) → (pull ≡ 0) ⊎ (0 < pull) → 1000 * pull ≤ 19950 * A
      go (yes l) z = l
      go (no l) (inl z) = omega arith
      go (no l) (inr z) =
          omega (arith, falls_short pull A moment (w.num * B) w.den (N * B) f.num f.den e h (pull_near moment w B N o p q z) (lt_of_not-le l), k.strong)

-- the larger pull or 0 is the larger of the two parts above 0
pub larger_is : (a b : ℤ) → larger_pull a b ≡ max (positive_part a) (positive_part b)
unfolding larger_pull
larger_is (pos m) (pos n) = go (ltb m n) (ltb→lt m n) (nltb→le m n)
  where
    go : (t : Bool) → (T t → m < n) → (T (not t) → n ≤ m) → positive_part (cond t (pos n) (pos m)) ≡ max m n
    go true y f = omega (arith, y tt)
    go false y f = omega (arith, f tt)
larger_is (pos m) (negsuc n) = omega arith
larger_is (negsuc m) (pos n) = omega arith
larger_is (negsuc m) (negsuc n) = go (ltb n m)
  where
    go : (t : Bool) → positive_part (cond t (negsuc n) (negsuc m)) ≡ 0
    go true = refl
    go false = refl
