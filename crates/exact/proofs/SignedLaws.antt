-- The laws of the signed quotient that is rounded toward the greater number, and what the machine's division and remainder say of it.
-- Assumes nothing.
use mathlib.Core.Path.{◌≡◌, refl, sym, ap, subst}
use mathlib.Core.Bool.{true, false}
use Prim.Native.Nat.{ℕ, zero, suc, ◌+◌, ◌*◌, ◌/◌, ◌%◌, ◌^◌, ◌≤◌, ◌<◌}
use native.Mathlib.Nat.{div-add-mod', le-mul_of_pos_right, mod-lt, mul-pos, zero-mul, lt_irrefl, lt_of_not-le, not-suc-le_self, not-suc-le-zero}
use native.Mathlib.Omega.{arith}
use lib.Dec.{T, ltb→lt}
use lib.IntN.{ℤ, pos, negsuc, neg_ℤ, nat_abs, ◌+ℤ◌, ◌-ℤ◌, ◌*ℤ◌}
use lib.Signed.{lt_z, quot_z, rem_z, ◌≤ℤ◌, ◌<ℤ◌}
use mir.Syntax.{Width, w64}
use mir.Val.{SFits}
use mir.ValLaws.{sfits_le}
use Rattle.std.proofs.lemmas.Int.{ints, fits_signed_from_abs, quot_is, rem_is, quot_fits, to_z-of_z}
use borrow.Author.Tests.{ltb-true, ltb-false}
use Rattle.exact.specs.Quotient.{up_ℤ, positive_part, Ratioℤ, AtLeastℤ}
use Rattle.exact.proofs.QuotientLaws.{up_safe, up_near, up_least, up_unique, down_safe, down_near, down_greatest}

neg_times : (q d : ℕ) → neg_ℤ (pos q) *ℤ pos d ≡ neg_ℤ (pos (q * d))
neg_times zero d = rw zero-mul
neg_times (suc k) d = refl

-- ---- the laws

module _ (d : ℕ) (p : 0 < d) where
  pub up_ℤ_safe : (z : ℤ) → z ≤ℤ (up_ℤ z d *ℤ pos d)
  unfolding up_ℤ
  up_ℤ_safe (pos n) = omega (arith, ints, up_safe n d p)
  up_ℤ_safe (negsuc n) = rw neg_times (omega (arith, ints, down_safe (suc n) d p))

  pub up_ℤ_near : (z : ℤ) → (up_ℤ z d *ℤ pos d) <ℤ (z +ℤ pos d)
  unfolding up_ℤ
  up_ℤ_near (pos n) = omega (arith, ints, up_near n d p)
  up_ℤ_near (negsuc n) = rw neg_times (omega (arith, ints, down_near (suc n) d p))

  pub up_ℤ_least : (z k : ℤ) → z ≤ℤ (k *ℤ pos d) → up_ℤ z d ≤ℤ k
  unfolding up_ℤ
  up_ℤ_least (pos n) (pos m) h = omega (arith, ints, up_least n d p m (omega (arith, ints)))
  up_ℤ_least (pos n) (negsuc m) h = absurd (omega (arith, ints, mul-pos {m = suc m} (omega arith) p))
  up_ℤ_least (negsuc n) (pos m) h = omega (arith, ints)
  up_ℤ_least (negsuc n) (negsuc m) h = omega (arith, ints, down_greatest (suc n) d p (suc m) (omega (arith, ints)))

-- the same of a fraction
pub rounded_up_ℤ : (f : Ratioℤ) → 0 < f.den → AtLeastℤ f (up_ℤ f.num f.den)
rounded_up_ℤ f p = record { safe = up_ℤ_safe f.den p f.num; near = up_ℤ_near f.den p f.num }

-- ---- a difference of two whole numbers

pub sub_fits : (a b : ℕ) → a + b < 2 ^ 63 → SFits w64 (pos a -ℤ pos b)
sub_fits a b h = fits_signed_from_abs w64 (pos a -ℤ pos b) (omega (arith, ints))

-- ---- the machine's division cuts toward zero

neg_not_above : (r : ℕ) → lt_z (pos 0) (neg_ℤ (pos r)) ≡ true → ⊥
neg_not_above zero t = subst T (sym t) tt
neg_not_above (suc r) t = subst T (sym t) tt

-- a remainder above 0: the quotient was cut, and one more fits
pub cut_up : (z den : ℤ) → pos 0 <ℤ den → lt_z (pos 0) (rem_z z den) ≡ true → quot_z z den +ℤ pos 1 ≡ up_ℤ z (nat_abs den)
unfolding up_ℤ
cut_up (pos a) (pos d) p t =
    let h : 0 < d = ltb→lt 0 d p.lt in
    ap pos (up_unique a d h (a / d + 1) (omega (arith, div-add-mod' a d, mod-lt a h)) (omega (arith, div-add-mod' a d, ltb-true 0 (a % d) t)))
cut_up (negsuc a) (pos d) p t = absurd (neg_not_above (suc a % d) t)
cut_up z (negsuc d) p t = absurd p.lt

pub cut_fits : {w : Width} (z den : ℤ) → pos 0 <ℤ den → lt_z (pos 0) (rem_z z den) ≡ true → SFits w z → SFits w (quot_z z den +ℤ pos 1)
cut_fits (pos a) (pos d) p t f =
    sfits_le (omega (arith, div-add-mod' a d, ltb-true 0 (a % d) t, le-mul_of_pos_right (a / d) (ltb→lt 0 d p.lt))) f
cut_fits (negsuc a) (pos d) p t f = absurd (neg_not_above (suc a % d) t)
cut_fits z (negsuc d) p t f = absurd p.lt

-- none above 0: the quotient was whole, or cut toward the greater number
pub uncut_up : (z den : ℤ) → pos 0 <ℤ den → lt_z (pos 0) (rem_z z den) ≡ false → quot_z z den ≡ up_ℤ z (nat_abs den)
unfolding up_ℤ
uncut_up (pos a) (pos d) p t =
    ap pos (up_unique a d (ltb→lt 0 d p.lt) (a / d) (omega (arith, div-add-mod' a d, ltb-false 0 (a % d) t)) (omega (arith, div-add-mod' a d, ltb→lt 0 d p.lt)))
uncut_up (negsuc a) (pos d) p t = refl
uncut_up z (negsuc d) p t = absurd p.lt

-- what the code needs
pub ruleset signed_laws = (quot_is, rem_is, quot_fits, to_z-of_z, cut_up, cut_fits, uncut_up)

-- ---- a number below 0, by its size

pub below_zero : (z : ℤ) → lt_z z (pos 0) ≡ true → (n : ℕ) × (z ≡ negsuc n)
below_zero (pos n) t = absurd (not-suc-le-zero (ltb-true n 0 t))
below_zero (negsuc n) t = (n, refl)

-- ---- the part above 0 of a difference over a whole number, (a - b) / d rounded toward the greater number

module _ (a b d : ℕ) (p : 0 < d) where
  -- it is at least the exact difference,
  pub part_safe : a ≤ b + positive_part (up_ℤ (pos a -ℤ pos b) d) * d
  part_safe = go (up_ℤ (pos a -ℤ pos b) d) (up_ℤ_safe d p (pos a -ℤ pos b))
    where
      go : (z : ℤ) → (pos a -ℤ pos b) ≤ℤ (z *ℤ pos d) → a ≤ b + positive_part z * d
      go (pos k) t = omega (arith, ints)
      go (negsuc n) t = omega (arith, ints)

  -- it is the least whole number that is,
  pub part_least : (k : ℕ) → a ≤ b + k * d → positive_part (up_ℤ (pos a -ℤ pos b) d) ≤ k
  part_least k h = go (up_ℤ (pos a -ℤ pos b) d) (up_ℤ_least d p (pos a -ℤ pos b) (pos k) (omega (arith, ints)))
    where
      go : (z : ℤ) → z ≤ℤ pos k → positive_part z ≤ k
      go (pos m) t = omega (arith, ints)
      go (negsuc n) t = omega arith

  -- and above 0 it is less than one above it.
  pub part_near : 0 < positive_part (up_ℤ (pos a -ℤ pos b) d) → b + positive_part (up_ℤ (pos a -ℤ pos b) d) * d < a + d
  part_near h = go (positive_part (up_ℤ (pos a -ℤ pos b) d)) h part_least
    where
      go : (r : ℕ) → 0 < r → ((k : ℕ) → a ≤ b + k * d → r ≤ k) → b + r * d < a + d
      go zero h f = absurd (lt_irrefl 0 h)
      go (suc k) h f = lt_of_not-le (λ l. not-suc-le_self k (f k (omega arith)))
