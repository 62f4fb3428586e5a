-- The laws of a list that is stored over another from some place on (the kit's `sets`).
-- Assumes nothing.
use mathlib.Core.Path.{◌≡◌, sym, ap, ◌∙◌}
use mathlib.Core.List.{List, [], ◌∷◌, ◌++◌, append_assoc}
use Prim.Native.Nat.{ℕ, suc, ◌+◌, ◌≤◌}
use native.Mathlib.Nat.{add-zero}
use native.Mathlib.Omega.{arith}
use lib.ListN.{length, take, drop, set}
use lib.Seq.{sets, sets-eq, drop-drop}
use borrow.Rule.Slice.PartMut.{put_mid}

-- one part after the other
pub sets_append : (xs ys l : List ℕ) (i : ℕ) → sets l i (xs ++ ys) ≡ sets (sets l i xs) (i + length xs) ys
sets_append [] ys l i = ap (λ (k : ℕ). sets l k ys) (sym (add-zero i))
sets_append (x ∷ xs) ys l i =
    let e : suc i + length xs ≡ i + suc (length xs) = omega arith in
    sets_append xs ys (set l i x) (suc i) ∙ ap (λ (k : ℕ). sets (sets (set l i x) (suc i) xs) k ys) e

-- from the start: what is stored, and the rest as it was
pub all_stored : (l vs : List ℕ) → length vs ≤ length l → sets l 0 vs ≡ vs ++ drop (length vs) l
all_stored l vs h = let z : 0 + length vs ≡ length vs = omega arith in sets-eq vs l 0 (omega arith) ∙ ap (λ (k : ℕ). vs ++ drop k l) z

-- a part of a slice that is written over as a whole
pub put_mid_sets : (a k : ℕ) (xs ys : List ℕ) → k ≡ length ys → a + k ≤ length xs → put_mid a k xs ys ≡ sets xs a ys
put_mid_sets a k xs ys e h =
    ap (λ (l : List ℕ). take a xs ++ (ys ++ l)) (drop-drop k a xs ∙ ap (λ (n : ℕ). drop (a + n) xs) e)
    ∙ sym (append_assoc (take a xs) ys (drop (a + length ys) xs))
    ∙ sym (sets-eq ys xs a (omega (arith, e)))
