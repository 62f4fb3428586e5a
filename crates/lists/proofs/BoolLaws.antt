-- The laws of tests: one that passed, several at once, two of which one fails, and two that both fail.
-- Assumes nothing.
use mathlib.Core.Path.{◌≡◌, refl, sym, subst}
use mathlib.Core.Bool.{Bool, true, false, ◌&&◌, ◌||◌}
use mathlib.Core.Logic.{◌⊎◌, inl, inr}
use lib.Dec.{T}
use mir.Facts.{and_yes, yes_and}

pub T_true : (b : Bool) → T b → b ≡ true
T_true true t = refl
T_true false t = absurd t

module _ (a b c : Bool) where
  pub three_yes : T (a && b && c) → T a × T b × T c
  three_yes h = let d = and_yes (a && b) c h in let e = and_yes a b d.0 in (e.0, e.1, d.1)

  pub yes_three : T a → T b → T c → T (a && b && c)
  yes_three x y z = yes_and (a && b) c (yes_and a b x y) z

module _ (a b : Bool) where
  pub one_fails : (a && b) ≡ false → (a ≡ false) ⊎ (b ≡ false)
  one_fails e = go a e
    where
      go : (x : Bool) → (x && b) ≡ false → (x ≡ false) ⊎ (b ≡ false)
      go true e = inr e
      go false e = inl refl

  pub both_hold : (a && b) ≡ true → (a ≡ true) × (b ≡ true)
  both_hold e = let h = and_yes a b (subst T (sym e) tt) in (T_true a h.0, T_true b h.1)

  pub both_fail : (a || b) ≡ false → (a ≡ false) × (b ≡ false)
  both_fail e = go a e
    where
      go : (x : Bool) → (x || b) ≡ false → (x ≡ false) × (b ≡ false)
      go true e = absurd (subst T e tt)
      go false e = (refl, e)
