-- A table's rule, from one test that the checker computes over all of its places.
-- Assumes nothing.
use mathlib.Core.Path.{◌≡◌, sym, subst}
use mathlib.Core.Bool.{Bool, true, ◌&&◌}
use mathlib.Core.List.{List}
use mathlib.Core.Logic.{◌⊎◌, inl, inr}
use Prim.Native.Nat.{ℕ, zero, suc, ◌<◌}
use native.Mathlib.Nat.{eq-or-lt_of_le, le_of_suc-le-suc, not-suc-le-zero}
use lib.Dec.{T, eqb, eqb→eq}
use lib.ListN.{get_or}
use mir.Facts.{and_yes}

-- the test passes at every place below n
abbrev pub every : (ℕ → Bool) → ℕ → Bool
every f zero = true
every f (suc n) = f n && every f n

pub at_each : (f : ℕ → Bool) (n : ℕ) → T (every f n) → (k : ℕ) → k < n → T (f k)
at_each f zero t k h = absurd (not-suc-le-zero h)
at_each f (suc n) t k h = go (eq-or-lt_of_le (le_of_suc-le-suc h)) (at_each f n (and_yes (f n) (every f n) t).1 k)
  where
    go : (k ≡ n) ⊎ (k < n) → (k < n → T (f k)) → T (f k)
    go (inl e) r = subst (λ (m : ℕ). T (f m)) (sym e) (and_yes (f n) (every f n) t).0
    go (inr l) r = r l

-- a table and its rule
pub holds_rule : (table : List ℕ) (rule : ℕ → ℕ) (n : ℕ) → T (every (λ k. eqb (get_or table k 0) (rule k)) n)
    → (k : ℕ) → k < n → get_or table k 0 ≡ rule k
holds_rule table rule n t k h = eqb→eq _ _ (at_each (λ k. eqb (get_or table k 0) (rule k)) n t k h)
