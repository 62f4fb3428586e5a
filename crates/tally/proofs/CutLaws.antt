-- Where a file is cut into parts makes no difference to its tally.
-- Assumes nothing.
use Rattle.std.specs.Prelude.{Err}
use mathlib.Core.Path.{◌≡◌, refl, sym, ap, ◌∙◌, subst}
use mathlib.Core.Bool.{Bool, true, false, not, cond, ◌&&◌, ◌||◌, or-true}
use mathlib.Core.List.{List, [], ◌∷◌, ◌++◌, append-nil, append_assoc}
use mathlib.Core.Logic.{◌⊎◌, inl, inr}
use Prim.Native.Nat.{ℕ, zero, suc, ◌+◌, ◌-◌, ◌≤◌, ◌<◌}
use native.Mathlib.Omega.{arith}
use lib.Dec.{T, leb}
use lib.Seq.{paste, get_or-take}
use lib.ListN.{length, take, drop, get_or-append, length-append, length-drop, length-take}
use borrow.Author.Tests.{leb-true, le-leb, le-ltb}
use Rattle.std.specs.List.{concat, copy_within}
use Rattle.std.proofs.lemmas.List.{take-append-le, drop-append-le, drop-take}
use Rattle.std.proofs.lemmas.List.Edits.{take-paste}
use Rattle.fields.specs.declared.refusal.Refusal.TheVariants.{BadLength}
use Rattle.rules.specs.Method.{method_number}
use Rattle.rules.specs.declared.method.Method.TheVariants.{D100}
use Rattle.layout.specs.Numbers.{two_in}
use Rattle.sheet.specs.Reading.{read_in, read_completed}
use Rattle.claims.specs.Judging.{refused_for, judged_completed}
use Rattle.claims.proofs.JudgeLaws.{judged_refused}
use Rattle.reports.specs.declared.report.Judgement.{Judgement}
use Rattle.marking.specs.Marking.{marked}
use Rattle.marking.proofs.MarkLaws.{marked_completed}
use Rattle.tally.specs.Tally.{own_length, own_bytes, after_own, stops, judgements, tallied, most_sheets}
use Rattle.tally.specs.Parts.{counted, counted_all, no_tally, start, is_usable, has_bad_length, is_ready, AfterPart, leaves, after_part, over_parts}
use Rattle.tally.specs.declared.tally.Tally.{Tally}
use Rattle.tally.specs.declared.progress.Progress.{Progress}
use Rattle.tally.proofs.TallyLaws.{tally_counted}

-- ---- a sheet that is read while more may follow is whole, and the same whatever follows it; or it has a length that no sheet has

bad_is : (b : List ℕ) → has_bad_length b ≡ true → (2 ≤ length b) × (is_usable (two_in b) ≡ false)
bad_is b e = go (leb 2 (length b)) (is_usable (two_in b)) refl refl e
  where
    go : (y u : Bool) → leb 2 (length b) ≡ y → is_usable (two_in b) ≡ u → (y && not u) ≡ true → (2 ≤ length b) × (is_usable (two_in b) ≡ false)
    go true false k m e = (leb-true _ _ k, m)
    go true true k m e = absurd (subst T (sym e) tt)
    go false u k m e = absurd (subst T (sym e) tt)

pub bad_from : (b : List ℕ) → 2 ≤ length b → is_usable (two_in b) ≡ false → has_bad_length b ≡ true
bad_from b h u = rw (le-leb 2 (length b) h, u) refl

ready_as : (b : List ℕ) → is_ready false b ≡ true → (own_length b ≤ length b) ⊎ (has_bad_length b ≡ true)
ready_as [] e = absurd (subst T (sym e) tt)
ready_as (x ∷ xs) e = go (leb (own_length (x ∷ xs)) (length (x ∷ xs))) refl e
  where
    b : List ℕ
    b = x ∷ xs

    go : (y : Bool) → leb (own_length b) (length b) ≡ y → (y || has_bad_length b) ≡ true → (own_length b ≤ length b) ⊎ (has_bad_length b ≡ true)
    go true k e = inl (leb-true _ _ k)
    go false k e = inr e

pub same_two : (b r : List ℕ) → 2 ≤ length b → two_in (b ++ r) ≡ two_in b
same_two b r h = omega (arith, get_or-append b r 0 0 (omega arith), get_or-append b r 0 1 (omega arith))

pub same_length : (b r : List ℕ) → own_length b ≤ length b → own_length (b ++ r) ≡ own_length b
same_length b r h = omega (arith, same_two b r (omega (arith, h)))

still_bad : (b r : List ℕ) → has_bad_length b ≡ true → has_bad_length (b ++ r) ≡ true
still_bad b r e = let i = bad_is b e in
    bad_from (b ++ r) (omega (arith, i.0, length-append b r)) (ap is_usable (same_two b r i.0) ∙ i.1)

still_ready : (ended : Bool) (b r : List ℕ) → is_ready false b ≡ true → is_ready ended (b ++ r) ≡ true
still_ready ended [] r e = absurd (subst T (sym e) tt)
still_ready true (x ∷ xs) r e = refl
still_ready false (x ∷ xs) r e = go (ready_as (x ∷ xs) e)
  where
    b : List ℕ
    b = x ∷ xs

    go : (own_length b ≤ length b) ⊎ (has_bad_length b ≡ true) → (leb (own_length (b ++ r)) (length (b ++ r)) || has_bad_length (b ++ r)) ≡ true
    go (inl h) = rw (le-leb (own_length (b ++ r)) (length (b ++ r)) (omega (arith, h, same_length b r h, length-append b r))) refl
    go (inr h) = rw (still_bad b r h) (or-true (leb (own_length (b ++ r)) (length (b ++ r))))

pub bad_ready : (b : List ℕ) → has_bad_length b ≡ true → is_ready false b ≡ true
bad_ready [] e = absurd (subst T (sym e) tt)
bad_ready (x ∷ xs) e = rw e (or-true (leb (own_length (x ∷ xs)) (length (x ∷ xs))))

-- a whole one is read, whatever follows it
pub whole_ready : (b r : List ℕ) → own_length b ≤ length b → is_ready false (b ++ r) ≡ true
whole_ready [] r h = absurd (omega (arith, h))
whole_ready (x ∷ xs) r h = still_ready false (x ∷ xs) r (rw (le-leb (own_length (x ∷ xs)) (length (x ∷ xs)) h) refl)

pub same_bytes : (b r : List ℕ) → own_length b ≤ length b → own_bytes (b ++ r) ≡ own_bytes b
same_bytes b r h = ap (λ (n : ℕ). take n (b ++ r)) (same_length b r h) ∙ take-append-le (own_length b) b r h

pub same_after : (b r : List ℕ) → own_length b ≤ length b → after_own (b ++ r) ≡ after_own b ++ r
same_after b r h = ap (λ (n : ℕ). drop n (b ++ r)) (same_length b r h) ∙ drop-append-le (own_length b) b r h

-- the length is in a sheet's own bytes
pub own_two : (b : List ℕ) → two_in (own_bytes b) ≡ two_in b
own_two b = omega (arith, get_or-take (own_length b) b 0 0 (omega arith), get_or-take (own_length b) b 1 0 (omega arith))

-- it is 13 whatever leaves behind the length
read_bad : (b : List ℕ) → 2 ≤ length b → is_usable (two_in b) ≡ false → read_completed b ≡ Err BadLength
unfolding read_completed read_in
read_bad b h u = rw (le-ltb (length b) 2 h, u) refl

pub bad_marked : (b : List ℕ) → has_bad_length b ≡ true → marked (own_bytes b) ≡ refused_for BadLength
bad_marked b e = let i = bad_is b e in
    marked_completed (own_bytes b)
    ∙ ap (judged_completed (method_number D100)) (read_bad (own_bytes b) (omega (arith, i.0, length-take (own_length b) b)) (ap is_usable (own_two b) ∙ i.1))
    ∙ judged_refused D100 BadLength

-- ---- A PART, AND THEN WHAT FOLLOWS IT: from what the part leaves, as from the whole

pub part_then_rest : (room : ℕ) (t : Tally) (ended : Bool) (b r : List ℕ)
    → let l = after_part room t false b in after_part room t ended (b ++ r) ≡ after_part l.progress.room l.progress.tally ended (l.rest ++ r)
unfolding after_part
part_then_rest zero t ended b r = refl
part_then_rest (suc k) t ended b r = go (is_ready false b) refl (part_then_rest k (counted t (marked (own_bytes b))) ended (after_own b) r)
  where
    j : Judgement
    j = marked (own_bytes b)

    t' : Tally
    t' = counted t j

    later : AfterPart
    later = after_part k t' false (after_own b)

    Comes : AfterPart → AfterPart → Type 0
    Comes whole l = whole ≡ after_part l.progress.room l.progress.tally ended (l.rest ++ r)

    one : (s : Bool) → Comes (after_part k t' ended (after_own b ++ r)) later
        → Comes (cond s (leaves 0 t' []) (after_part k t' ended (after_own b ++ r))) (cond s (leaves 0 t' []) later)
    one true e = refl
    one false e = e

    by_kind : (own_length b ≤ length b) ⊎ (has_bad_length b ≡ true) → is_ready false b ≡ true → Comes (after_part k t' ended (after_own b ++ r)) later
        → Comes (after_part (suc k) t ended (b ++ r)) (cond (stops j) (leaves 0 t' []) later)
    by_kind (inl h) e i = rw (still_ready ended b r e, same_bytes b r h, same_after b r h) (one (stops j) i)
    by_kind (inr h) e i = rw (still_ready ended b r e, bad_marked (b ++ r) (still_bad b r h), bad_marked b h) refl

    go : (y : Bool) → is_ready false b ≡ y → Comes (after_part k t' ended (after_own b ++ r)) later
        → Comes (after_part (suc k) t ended (b ++ r)) (cond y (cond (stops j) (leaves 0 t' []) later) (leaves (suc k) t b))
    go true e i = by_kind (ready_as b e) e i
    go false e i = refl

-- ---- THE LAST PART

pub ended_part : (room : ℕ) (t : Tally) (b : List ℕ) → counted_all t (judgements room b) ≡ (after_part room t true b).progress.tally
unfolding after_part judgements
ended_part zero t b = refl
ended_part (suc k) t [] = refl
ended_part (suc k) t (x ∷ xs) = go (stops j) (ended_part k (counted t j) (after_own (x ∷ xs)))
  where
    j : Judgement
    j = marked (own_bytes (x ∷ xs))

    later : AfterPart
    later = after_part k (counted t j) true (after_own (x ∷ xs))

    go : (s : Bool) → counted_all (counted t j) (judgements k (after_own (x ∷ xs))) ≡ later.progress.tally
        → counted_all (counted t j) (cond s [] (judgements k (after_own (x ∷ xs)))) ≡ (cond s (leaves 0 (counted t j) []) later).progress.tally
    go true e = refl
    go false e = e

pub all_tallied : (b : List ℕ) → (after_part most_sheets no_tally true b).progress.tally ≡ tallied b
unfolding tallied
all_tallied b = sym (ended_part most_sheets no_tally b) ∙ tally_counted (judgements most_sheets b)

-- ---- fewer may be read after a part, or none of it is taken

room_most : (room : ℕ) (t : Tally) (ended : Bool) (b : List ℕ) → (after_part room t ended b).progress.room ≤ room
unfolding after_part
room_most zero t ended b = omega arith
room_most (suc k) t ended b = go (is_ready ended b) (stops j) (room_most k (counted t j) ended (after_own b))
  where
    j : Judgement
    j = marked (own_bytes b)

    later : AfterPart
    later = after_part k (counted t j) ended (after_own b)

    go : (y s : Bool) → later.progress.room ≤ k → (cond y (cond s (leaves 0 (counted t j) []) later) (leaves (suc k) t b)).progress.room ≤ suc k
    go true true i = omega arith
    go true false i = omega (arith, i)
    go false s i = omega arith

pub none_taken : (room : ℕ) (t : Tally) (ended : Bool) (b : List ℕ) → 0 < room
    → let l = after_part room t ended b in (l.progress.room < room) ⊎ ((l.progress.room ≡ room) × (l.rest ≡ b))
unfolding after_part
none_taken zero t ended b h = absurd (omega arith)
none_taken (suc k) t ended b h = go (is_ready ended b) (stops j) (room_most k (counted t j) ended (after_own b))
  where
    j : Judgement
    j = marked (own_bytes b)

    later : AfterPart
    later = after_part k (counted t j) ended (after_own b)

    go : (y s : Bool) → later.progress.room ≤ k
        → let l = cond y (cond s (leaves 0 (counted t j) []) later) (leaves (suc k) t b) in
        (l.progress.room < suc k) ⊎ ((l.progress.room ≡ suc k) × (l.rest ≡ b))
    go true true i = inl (omega arith)
    go true false i = inl (omega (arith, i))
    go false s i = inr (refl, refl)

-- ---- ANY CUTTING OF A FILE INTO PARTS COMES TO THE FILE'S TALLY

parts_same : (p : Progress) (held : List ℕ) (parts : List (List ℕ)) → over_parts p held parts ≡ (after_part p.room p.tally true (held ++ concat parts)).progress.tally
parts_same p held [] = ap (λ (b : List ℕ). (after_part p.room p.tally true b).progress.tally) (sym (append-nil held))
parts_same p held (part ∷ parts) =
    let l = after_part p.room p.tally false (held ++ part) in
    parts_same l.progress l.rest parts
    ∙ ap (λ (y : AfterPart). y.progress.tally) (sym (part_then_rest p.room p.tally true (held ++ part) (concat parts)))
    ∙ ap (λ (b : List ℕ). (after_part p.room p.tally true b).progress.tally) (append_assoc held part (concat parts))

pub any_cutting : (parts : List (List ℕ)) → over_parts start [] parts ≡ tallied (concat parts)
any_cutting parts = parts_same start [] parts ∙ all_tallied (concat parts)

-- ---- what is left, moved to the front of the buffer

front : (buf part : List ℕ) (n : ℕ) → n ≤ length buf → n ≤ length part → take n (paste buf 0 part n) ≡ take n part
front buf part n p q = let z : 0 + n ≡ n = omega arith in subst (λ (k : ℕ). take k (paste buf 0 part n) ≡ take n part) z (take-paste buf 0 part n (omega arith) q)

pub moved_front : (buf : List ℕ) (from end : ℕ) {new : List ℕ} → from ≤ end → end ≤ length buf → new ≡ copy_within buf from end 0
    → take (end - from) new ≡ drop from (take end buf)
moved_front buf from end p q e =
    let k : from + (end - from) ≡ end = omega arith in
    ap (take (end - from)) e
    ∙ front buf (drop from buf) (end - from) (omega arith) (omega (arith, length-drop from buf))
    ∙ sym (drop-take from (end - from) buf)
    ∙ ap (λ (i : ℕ). drop from (take i buf)) k
