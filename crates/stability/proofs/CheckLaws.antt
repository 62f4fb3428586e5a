-- When each check of a tank's way of standing holds. A self-anchored tank stands in an earthquake unless its uplift is over; and the uplift at
-- literal numbers, since demand 3 does not speak of 785 and its word is printed.
-- Assumes nothing.
use mathlib.Core.Path.{◌≡◌, refl}
use mathlib.Core.Bool.{Bool, true, false, cond}
use mathlib.Core.List.{[], ◌∷◌, map}
use Prim.Native.Nat.{ℕ, ◌*◌, ◌≤◌}
use native.Mathlib.Omega.{arith}
use lib.Dec.{T, leb, leb→le}
use borrow.Author.Tests.{le-leb}
use Rattle.lists.specs.Ascii.{ascii}
use Rattle.rules.specs.Words.{none_word, lift_word, over_word}
use Rattle.rules.specs.Verdict.{holds}
use Rattle.rules.proofs.VerdictLaws.{verdict_holds}
use Rattle.stability.specs.Anchors.{wind_verdict, spacing_verdict, strength_verdict}
use Rattle.stability.specs.Earthquake.{uplift_of, uplift_word, lift_word_of, uplift_holds, quake_verdict}
use Rattle.stability.specs.declared.earthquake.Uplift.TheVariants.{None, Lift, Over}

pub self_wind_holds : (M W D : ℕ) → holds (wind_verdict M W D) ≡ leb (3600 * M) (W * D)
unfolding wind_verdict
self_wind_holds M W D = verdict_holds (3600 * M) (W * D)

pub quake_holds : (Ms T : ℕ) → holds (quake_verdict Ms T) ≡ leb (1000 * Ms) (1540 * T)
unfolding quake_verdict
quake_holds Ms T = verdict_holds (1000 * Ms) (1540 * T)

pub spacing_holds : (B N : ℕ) → holds (spacing_verdict B N) ≡ leb (355 * B) (1356000 * N)
unfolding spacing_verdict
spacing_holds B N = verdict_holds (355 * B) (1356000 * N)

pub strength_holds : (pull A : ℕ) → holds (strength_verdict pull A) ≡ leb (1000 * pull) (19950 * A)
unfolding strength_verdict
strength_holds pull A = verdict_holds (1000 * pull) (19950 * A)

pub quake_stands : (Ms t : ℕ) → uplift_holds (uplift_of Ms t) ≡ holds (quake_verdict Ms t)
unfolding uplift_of
quake_stands Ms t = rw quake_holds (go (leb (1000 * Ms) (785 * t)) (leb→le (1000 * Ms) (785 * t)))
  where
    unless : (b : Bool) → uplift_holds (cond b Lift Over) ≡ b
    unless true = refl
    unless false = refl

    go : (a : Bool) → (T a → 1000 * Ms ≤ 785 * t) → uplift_holds (cond a None (cond (leb (1000 * Ms) (1540 * t)) Lift Over)) ≡ leb (1000 * Ms) (1540 * t)
    go true h = rw (le-leb (1000 * Ms) (1540 * t) (omega (arith, h tt)))
    go false h = unless (leb (1000 * Ms) (1540 * t))

pub uplift_word_lem : (Ms t : ℕ) → uplift_word (uplift_of Ms t) ≡ lift_word_of Ms t
unfolding uplift_of lift_word_of
uplift_word_lem Ms t = go (leb (1000 * Ms) (785 * t)) (leb (1000 * Ms) (1540 * t))
  where
    go : (a b : Bool) → uplift_word (cond a None (cond b Lift Over)) ≡ cond a none_word (cond b lift_word over_word)
    go true b = refl
    go false true = refl
    go false false = refl

-- at either side of 0.785 T and of 1.54 T, where "equality this paper decides", in document 01's letters
pub uplifts_printed : map (λ (Ms : ℕ). uplift_word (uplift_of Ms 1000)) (785 ∷ 786 ∷ 1540 ∷ 1541 ∷ [])
    ≡ ascii "none" ∷ ascii "lift" ∷ ascii "lift" ∷ ascii "over" ∷ []
unfolding uplift_of
uplifts_printed = refl
