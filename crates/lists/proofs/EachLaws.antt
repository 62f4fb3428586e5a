-- Where each element passes a test, the one at a place does.
-- Assumes nothing.
use mathlib.Core.Bool.{Bool}
use mathlib.Core.List.{List, [], ◌∷◌}
use Prim.Native.Nat.{ℕ, zero, suc, ◌<◌}
use native.Mathlib.Nat.{le_of_suc-le-suc, not-suc-le-zero}
use lib.ListN.{length, get_or}
use lib.Dec.{T}
use mir.Facts.{and_yes}
use Rattle.std.specs.List.{list_all}

module _ {A : Type 0} (f : A → Bool) where
  pub each_at : (l : List A) (i : ℕ) (d : A) → i < length l → T (list_all f l) → T (f (get_or l i d))
  each_at [] i d h t = absurd (not-suc-le-zero h)
  each_at (x ∷ xs) zero d h t = (and_yes (f x) (list_all f xs) t).0
  each_at (x ∷ xs) (suc i) d h t = each_at xs i d (le_of_suc-le-suc h) (and_yes (f x) (list_all f xs) t).1
