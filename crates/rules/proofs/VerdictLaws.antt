-- A verdict holds exactly when the need is at most the capacity; and the word and the use that it gives. The use at literal numbers, so that
-- no other quotient passes in definition and code alike: demand 3 does not speak of it.
-- Assumes nothing.
use mathlib.Core.Path.{◌≡◌, refl, ap}
use mathlib.Core.Bool.{Bool, true, false, cond}
use mathlib.Core.List.{List, [], ◌∷◌, map}
use Prim.Native.Nat.{ℕ}
use native.Mathlib.Omega.{arith}
use lib.Dec.{leb}
use lib.Ieee.{binary64, round, to_bits}
use lib.ListN.{get_or}
use Rattle.rules.specs.Words.{ok_word, short_word}
use Rattle.rules.specs.Verdict.{use_of, verdict_of, verdict_word, holds, used, VerdictFor}
use Rattle.rules.specs.declared.verdict.Verdict.{Verdict}
use Rattle.rules.specs.declared.verdict.Verdict.TheVariants.{Holds, Short}

-- the bits of a use: 188 over 250, which is 0.752; equality; a third; and no need
pub uses_computed : map (to_bits binary64) (use_of 188 250 ∷ use_of 250 250 ∷ use_of 1 3 ∷ use_of 0 3 ∷ [])
    ≡ 0x3fe810624dd2f1aa ∷ 0x3ff0000000000000 ∷ 0x3fd5555555555555 ∷ 0 ∷ []
unfolding use_of round to_bits
uses_computed = refl

pub verdict_holds : (need capacity : ℕ) → holds (verdict_of need capacity) ≡ leb need capacity
unfolding verdict_of
verdict_holds need capacity = go (leb need capacity)
  where
    go : (b : Bool) → holds (cond b (Holds (use_of need capacity)) (Short (use_of need capacity))) ≡ b
    go true = refl
    go false = refl

pub verdict_for : (need capacity : ℕ) → VerdictFor need capacity (verdict_of need capacity)
unfolding verdict_of
verdict_for need capacity = record { word = word (leb need capacity); use_is = use_is (leb need capacity) }
  where
    word : (b : Bool) → verdict_word (cond b (Holds (use_of need capacity)) (Short (use_of need capacity))) ≡ cond b ok_word short_word
    word true = refl
    word false = refl

    use_is : (b : Bool) → used (cond b (Holds (use_of need capacity)) (Short (use_of need capacity))) ≡ use_of need capacity
    use_is true = refl
    use_is false = refl

-- So a verdict that is given for a need and a capacity holds as they say: its two words differ in their first letters.
pub holds_for : {need capacity : ℕ} {v : Verdict} → VerdictFor need capacity v → holds v ≡ leb need capacity
holds_for {need} {capacity} {v} f = go v (leb need capacity) f.word
  where
    go : (v : Verdict) (b : Bool) → verdict_word v ≡ cond b ok_word short_word → holds v ≡ b
    go (Holds u) true e = refl
    go (Holds u) false e = absurd (omega (arith, ap (λ (l : List ℕ). get_or l 0 0) e))
    go (Short u) true e = absurd (omega (arith, ap (λ (l : List ℕ). get_or l 0 0) e))
    go (Short u) false e = refl
