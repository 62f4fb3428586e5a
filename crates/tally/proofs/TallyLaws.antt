-- The laws of a tally: that it adds up, and what one judgement more makes of it.
-- Assumes nothing.
use Rattle.std.specs.Prelude.{Option, Some, None}
use Rattle.std.specs.Int.{int_min}
use Rattle.std.specs.List.{All, Contains, fold}
use mathlib.Core.Path.{◌≡◌, refl, sym, ap, ◌∙◌}
use mathlib.Core.Bool.{Bool, true, false, not, ◌&&◌}
use mathlib.Core.List.{List, [], ◌∷◌, ◌++◌, append_assoc, append-nil}
use Prim.Native.Nat.{◌+◌}
use native.Mathlib.Omega.{arith}
use lib.IntN.{ℤ, ◌+ℤ◌}
use lib.ListN.{length, length-append}
use Rattle.std.proofs.lemmas.Int.{ints, clamps, fold-int_min_bounds, fold-int_min_reached}
use Rattle.std.proofs.lemmas.List.Sums.{fold-append}
use Rattle.std.proofs.lemmas.List.Concat.{flat_map-append}
use mathlib.Core.Logic.{◌⊎◌}
use lib.Signed.{◌≤ℤ◌}
use Rattle.reports.specs.declared.report.Judgement.{Judgement}
use Rattle.fields.specs.Order.{accepts}
use Rattle.tally.specs.Tally.{is_refused, is_sound, is_short, one_if, count, differences_on, differences, sum_of, least_of, tally_of, AddsUp}
use Rattle.tally.specs.Parts.{lesser, no_tally, counted, counted_all}
use Rattle.tally.specs.declared.tally.Tally.{Tally}

-- ---- one list after the other

pub sum_append : (ds es : List ℤ) → sum_of (ds ++ es) ≡ sum_of ds +ℤ sum_of es
sum_append [] es = omega (arith, ints)
sum_append (d ∷ ds) es = omega (arith, ints, sum_append ds es)

min_assoc : (x y z : ℤ) → int_min (int_min x y) z ≡ int_min x (int_min y z)
min_assoc x y z = omega (arith, ints, clamps)

pub lesser_none : (x : Option ℤ) → lesser x None ≡ x
lesser_none None = refl
lesser_none (Some d) = refl

pub lesser_assoc : (x y z : Option ℤ) → lesser (lesser x y) z ≡ lesser x (lesser y z)
lesser_assoc None y z = refl
lesser_assoc (Some d) None z = refl
lesser_assoc (Some d) (Some e) None = refl
lesser_assoc (Some d) (Some e) (Some f) = ap Some (min_assoc d e f)

fold_min : (d e : ℤ) (es : List ℤ) → fold int_min (int_min d e) es ≡ int_min d (fold int_min e es)
fold_min d e [] = refl
fold_min d e (x ∷ es) = ap (λ (y : ℤ). fold int_min y es) (min_assoc d e x) ∙ fold_min d (int_min e x) es

pub least_append : (ds es : List ℤ) → least_of (ds ++ es) ≡ lesser (least_of ds) (least_of es)
least_append [] es = refl
least_append (d ∷ ds) [] = ap (λ (xs : List ℤ). Some (fold int_min d xs)) (append-nil ds)
least_append (d ∷ ds) (e ∷ es) = ap Some (fold-append int_min d ds (e ∷ es) ∙ fold_min (fold int_min d ds) e es)

count_append : (p : Judgement → Bool) (js : List Judgement) (j : Judgement) → count p (js ++ j ∷ []) ≡ count p js + one_if (p j)
count_append p [] j = omega arith
count_append p (k ∷ js) j = omega (arith, count_append p js j)

differences_append : (js : List Judgement) (j : Judgement) → differences (js ++ j ∷ []) ≡ differences js ++ differences_on j
differences_append js j = flat_map-append differences_on js (j ∷ []) ∙ ap (λ (ds : List ℤ). differences js ++ ds) (append-nil (differences_on j))

-- ---- one judgement more

tally_next : (js : List Judgement) (j : Judgement) → tally_of (js ++ j ∷ []) ≡ counted (tally_of js) j
unfolding tally_of counted
tally_next js j =
    rw (differences_append js j, sum_append (differences js) (differences_on j), least_append (differences js) (differences_on j), count_append is_sound js j, count_append is_short js j, count_append is_refused js j, length-append js (j ∷ []))
    refl

none_counted : tally_of [] ≡ no_tally
unfolding tally_of
none_counted = refl

after : (js ks : List Judgement) → counted_all (tally_of js) ks ≡ tally_of (js ++ ks)
after js [] = ap tally_of (sym (append-nil js))
after js (k ∷ ks) =
    ap (λ (t : Tally). counted_all t ks) (sym (tally_next js k))
    ∙ after (js ++ k ∷ []) ks
    ∙ ap tally_of (append_assoc js (k ∷ []) ks)

pub tally_counted : (js : List Judgement) → counted_all no_tally js ≡ tally_of js
tally_counted js = ap (λ (t : Tally). counted_all t js) (sym none_counted) ∙ after [] js

-- ---- READ IS SOUND PLUS SHORT PLUS REFUSED

pub one_of : (j : Judgement) → one_if (is_sound j) + one_if (is_short j) + one_if (is_refused j) ≡ 1
one_of j = go (accepts j.answer) _
  where
    go : (a s : Bool) → one_if (a && s) + one_if (a && not s) + one_if (not a) ≡ 1
    go true true = refl
    go true false = refl
    go false s = refl

all_counted : (js : List Judgement) → length js ≡ count is_sound js + count is_short js + count is_refused js
all_counted [] = refl
all_counted (j ∷ js) = omega (arith, one_of j, all_counted js)

pub adds_up : (js : List Judgement) → AddsUp (tally_of js)
unfolding tally_of
adds_up js = all_counted js

-- ---- THE LEAST IS ONE OF THE DIFFERENCES, AND NONE IS BELOW IT

pub least_is : (d : ℤ) (ds : List ℤ)
    → (m : ℤ) × ((least_of (d ∷ ds) ≡ Some m) × (((m ≡ d) ⊎ Contains ds m) × ((m ≤ℤ d) × All (λ x. m ≤ℤ x) ds)))
least_is d ds = let m = fold int_min d ds in (m, (refl, (fold-int_min_reached d ds m refl, fold-int_min_bounds d ds m refl)))
