-- The laws of elements in an array of twelve.
-- Assumes nothing.
use mathlib.Core.Path.{◌≡◌, sym, ap, ◌∙◌}
use mathlib.Core.List.{List, [], ◌∷◌, ◌++◌, append_assoc}
use Prim.Native.Nat.{ℕ, suc, ◌-◌, ◌<◌}
use native.Mathlib.Omega.{arith}
use lib.ListN.{length, take, set, replicate, length-append}
use lib.Seq.{set_at, take_at}
use Rattle.lists.specs.Pad.{padded}

module _ {A : Type 0} (blank : A) (xs : List A) where
  -- the first slot that is left is filled
  pub padded_next : (x : A) (i : ℕ) → length xs ≡ i → i < 12 → set (padded blank xs) i x ≡ padded blank (xs ++ x ∷ [])
  padded_next x i n h =
      let e : 12 - length xs ≡ suc (11 - i) = omega (arith, n) in
      let f : 12 - length (xs ++ x ∷ []) ≡ 11 - i = omega (arith, n, length-append xs (x ∷ [])) in
      ap (λ (k : ℕ). set (xs ++ replicate k blank) i x) e
      ∙ set_at xs blank (replicate (11 - i) blank) x i n
      ∙ sym (append_assoc xs (x ∷ []) (replicate (11 - i) blank))
      ∙ ap (λ (k : ℕ). (xs ++ x ∷ []) ++ replicate k blank) (sym f)

  pub take_padded : (n : ℕ) → length xs ≡ n → take n (padded blank xs) ≡ xs
  take_padded n h = take_at xs (replicate (12 - length xs) blank) n h
