-- What is found bit by bit is the greatest that passes.
-- Assumes nothing.
use mathlib.Core.Path.{◌≡◌, refl, sym, subst}
use mathlib.Core.Bool.{Bool, true, false, not, cond}
use Prim.Native.Nat.{ℕ, zero, suc, ◌+◌, ◌^◌, ◌≤◌}
use native.Mathlib.Nat.{add_assoc, le_antisymm, lt_of_not-le, two-pow-succ, zero-add}
use native.Mathlib.Decide.{dec_le}
use native.Mathlib.Omega.{arith}
use lib.Dec.{T, T_not}
use Rattle.exact.specs.Greatest.{Greatest, tried, low_bits, greatest_below}

-- n passes, and n + w does not
abbrev Brackets : (ℕ → Bool) → ℕ → ℕ → Type 0
Brackets passes n w = T (passes n) × T (not (passes (n + w)))

-- the greatest lies in the half that the test picks
halved : (passes : ℕ → Bool) (n w : ℕ) (b : Bool) → passes (n + w) ≡ b → Brackets passes n (w + w) → Brackets passes (cond b (n + w) n) w
halved passes n w true e h = (subst T (sym e) tt, subst (λ (x : ℕ). T (not (passes x))) (sym (add_assoc n w w)) h.1)
halved passes n w false e h = (h.0, subst (λ (b : Bool). T (not b)) (sym e) tt)

bracketed : (k : ℕ) (passes : ℕ → Bool) (n : ℕ) → Brackets passes n (2 ^ k) → Brackets passes (low_bits k passes n) 1
unfolding low_bits
bracketed zero passes n h = h
bracketed (suc k) passes n h =
    bracketed k passes (tried k passes n)
    (halved passes n (2 ^ k) (passes (n + 2 ^ k)) refl (subst (Brackets passes n) (two-pow-succ k) h))

-- Where a number passes, so do the smaller ones: then one number is the greatest, and it is the one that is found.
module _ (k : ℕ) (passes : ℕ → Bool) (smaller : (m n : ℕ) → m ≤ n → T (passes n) → T (passes m)) where
  pub greatest_found : T (passes 0) → T (not (passes (2 ^ k))) → Greatest passes (greatest_below k passes)
  unfolding greatest_below
  greatest_found least top = record { fits = found.0; most = λ n t. below n t (dec_le n (low_bits k passes 0)) }
    where
      found : Brackets passes (low_bits k passes 0) 1
      found = bracketed k passes 0 (least, subst (λ (x : ℕ). T (not (passes x))) (sym (zero-add (2 ^ k))) top)

      below : (n : ℕ) → T (passes n) → Dec (n ≤ low_bits k passes 0) → n ≤ low_bits k passes 0
      below n t (yes l) = l
      below n t (no f) =
          absurd (T_not (passes (low_bits k passes 0 + 1)) found.1 (smaller (low_bits k passes 0 + 1) n (omega (arith, lt_of_not-le f)) t))

pub greatest_unique : (passes : ℕ → Bool) (m n : ℕ) → Greatest passes m → Greatest passes n → m ≡ n
greatest_unique passes m n g h = le_antisymm (h.most m g.fits) (g.most n h.fits)
