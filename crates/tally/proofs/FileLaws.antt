-- What a file comes to, by its bytes: each whole sheet is marked by itself, whatever its answer; where no sheet can be found it ends with 11 or
-- 13; and 12 cannot occur.
-- Assumes nothing.
use mathlib.Core.Path.{◌≡◌, refl, sym, ap, ◌∙◌, subst}
use mathlib.Core.Bool.{Bool, true, false, not, cond, ◌&&◌, ◌||◌}
use mathlib.Core.List.{List, [], ◌∷◌, ◌++◌, map, append-nil, append_assoc}
use mathlib.Core.Logic.{◌⊎◌, inl, inr}
use Prim.Native.Nat.{ℕ, zero, suc, ◌+◌, ◌-◌, ◌≤◌, ◌<◌}
use native.Mathlib.Nat.{zero-add, lt_of_not-le}
use native.Mathlib.Decide.{dec_le}
use native.Mathlib.Omega.{arith}
use lib.Dec.{T, eqb, ltb}
use lib.ListN.{length, drop_of_length-le, length-take}
use lib.Seq.{take_all}
use mir.Facts.{and_yes}
use borrow.Author.Tests.{le-ltb, lt-ltb, eqb-true}
use Rattle.std.specs.List.{concat, list_all}
use Rattle.fields.specs.declared.refusal.Code.{Code}
use Rattle.fields.specs.Refusal.{plain, code_of}
use Rattle.fields.specs.Order.{Condition, answer_code, first_code}
use Rattle.flaws.specs.Flaws.{tank_flaws, site_flaws, anchor_flaws, course_flaws}
use Rattle.rules.specs.Method.{method_number}
use Rattle.rules.specs.declared.method.Method.TheVariants.{D100}
use Rattle.entries.specs.Sheet.{empty_sheet}
use Rattle.entries.specs.declared.sheet.Sheet.{Sheet}
use Rattle.layout.specs.Numbers.{two_in}
use Rattle.layout.specs.Header.{read_order, version_in}
use Rattle.layout.specs.declared.version.Version.{Version}
use Rattle.layout.specs.declared.version.Version.TheVariants.{One, Two}
use Rattle.sheet.specs.Steps.{order_of, applied}
use Rattle.sheet.specs.Reading.{read_in, read_code, steps_in, turn_code, unless_code}
use Rattle.sheet.specs.declared.steps.Step.{Step}
use Rattle.sheet.specs.declared.steps.Step.TheVariants.{StateTank, StateSite, StateAnchors, AddCourse}
use Rattle.claims.specs.Judging.{judge_order, judge_code}
use Rattle.reports.specs.declared.report.Judgement.{Judgement}
use Rattle.marking.specs.Marking.{marked, mark_code}
use Rattle.marking.proofs.MarkLaws.{mark_code_lem}
use Rattle.tally.specs.Tally.{own_length, own_bytes, after_own, is_stop, stops, judgements, tally_of, tallied, most_sheets}
use Rattle.tally.specs.Parts.{no_tally, counted, counted_all, is_usable, has_bad_length, AfterPart, after_part}
use Rattle.tally.specs.Stream.{after_bytes}
use Rattle.tally.specs.declared.tally.Tally.{Tally}
use Rattle.tally.specs.Files.{WholeSheet, EachWhole, NoSheet}
use Rattle.tally.proofs.CutLaws.{bad_from, own_two, bad_marked, same_bytes, same_after, whole_ready, bad_ready}

-- ---- which answers stop it

-- 11, 12 and 13 are answered for the length and the number of the bytes alone
is_early : ℕ → Bool
is_early n = eqb n 11 || eqb n 12 || eqb n 13

abbrev other : Condition → Bool
other c = not (is_early (code_of c.refusal).number && c.applies)

first_other : (cs : List Condition) → T (list_all other cs) → is_early (first_code cs).number ≡ false
unfolding is_early
first_other [] t = refl
first_other (c ∷ cs) t = go c.applies (is_early (code_of c.refusal).number) refl (and_yes (other c) (list_all other cs) t) (first_other cs)
  where
    go : (b e : Bool) → is_early (code_of c.refusal).number ≡ e → T (not (e && b)) × T (list_all other cs) → (T (list_all other cs) → is_early (first_code cs).number ≡ false)
        → is_early (cond b (code_of c.refusal) (first_code cs)).number ≡ false
    go true true k t f = absurd t.0
    go true false k t f = k
    go false e k t f = f t.1

unless_other : (p q : Code) → is_early p.number ≡ false → is_early q.number ≡ false → is_early (unless_code p q).number ≡ false
unless_other p q h k = go (eqb p.number 0)
  where
    go : (b : Bool) → is_early (cond b q p).number ≡ false
    go true = k
    go false = h

steps_other : (v : Version) (s : Sheet) (x : Step) → T (list_all other (order_of v s x))
unfolding is_early tank_flaws site_flaws anchor_flaws course_flaws
steps_other v s (StateTank t) = tt
steps_other v s (StateSite x) = tt
steps_other One s (StateAnchors a) = tt
steps_other Two s (StateAnchors a) = tt
steps_other v s (AddCourse c) = tt

turns_other : (v : Version) (xs : List Step) (s : Sheet) → is_early (turn_code v s xs).number ≡ false
unfolding is_early
turns_other v [] s = refl
turns_other v (x ∷ xs) s =
    unless_other (first_code (order_of v s x)) (turn_code v (applied v s x).sheet xs) (first_other (order_of v s x) (steps_other v s x)) (turns_other v xs (applied v s x).sheet)

judge_other : (s : Sheet) → T (list_all other (judge_order (method_number D100) s))
unfolding is_early
judge_other s = tt

whole_other : (b : List ℕ) → WholeSheet b → T (list_all other (read_order b))
unfolding is_early
whole_other b w =
    rw (le-ltb (length b) 2 (omega (arith, w.whole)), w.usable, le-ltb (length b) (2 + two_in b) (omega (arith, w.whole)), le-ltb (2 + two_in b) (length b) (omega (arith, w.whole)))
    tt

-- A WHOLE SHEET WITH A LENGTH OF A SHEET STOPS NOTHING, WHATEVER IT IS ANSWERED
whole_code : (b : List ℕ) → WholeSheet b → is_early (mark_code b).number ≡ false
unfolding mark_code read_code judge_code
whole_code b w =
    unless_other (read_code b) (judge_code (method_number D100) (read_in b).sheet)
    (unless_other (first_code (read_order b)) (turn_code (version_in b) empty_sheet (steps_in (version_in b) b)) (first_other (read_order b) (whole_other b w)) (turns_other (version_in b) (steps_in (version_in b) b) empty_sheet))
    (first_other (judge_order (method_number D100) (read_in b).sheet) (judge_other (read_in b).sheet))

early_stops : (n : ℕ) → is_early n ≡ false → is_stop n ≡ false
unfolding is_early
early_stops n = go (eqb n 11) (eqb n 12) (eqb n 13)
  where
    go : (a b c : Bool) → (a || b || c) ≡ false → (a || c) ≡ false
    go true b c e = e
    go false true c e = absurd (subst T e tt)
    go false false c e = e

goes_on : (b : List ℕ) → WholeSheet b → stops (marked b) ≡ false
goes_on b w = ap (λ (p : Code). is_stop p.number) (mark_code_lem b) ∙ early_stops (mark_code b).number (whole_code b w)

-- BYTES WHERE NO SHEET CAN BE FOUND STOP IT
no_sheet_left : (b : List ℕ) → NoSheet b → NoSheet (own_bytes b)
no_sheet_left b (inl e) = inl (ap is_usable (own_two b) ∙ e)
no_sheet_left b (inr l) = inr (omega (arith, own_two b, length-take (own_length b) b))

first_stops : (b : List ℕ) → NoSheet b → is_stop (first_code (read_order b)).number ≡ true
first_stops b h = go (ltb (length b) 2) (is_usable (two_in b)) (ltb (length b) (2 + two_in b)) _ (test h)
  where
    test : NoSheet b → (is_usable (two_in b) ≡ false) ⊎ (ltb (length b) (2 + two_in b) ≡ true)
    test (inl e) = inl e
    test (inr l) = inr (lt-ltb _ _ l)

    go : (x u y : Bool) (p : Code) → (u ≡ false) ⊎ (y ≡ true) → is_stop (cond x (plain 11) (cond (not u) (plain 13) (cond y (plain 11) p))).number ≡ true
    go true u y p h = refl
    go false false y p h = refl
    go false true true p h = refl
    go false true false p (inl e) = absurd (subst T e tt)
    go false true false p (inr e) = absurd (subst T (sym e) tt)

stop_stays : (p q : Code) → is_stop p.number ≡ true → unless_code p q ≡ p
stop_stays p q h = go (eqb p.number 0) refl
  where
    go : (b : Bool) → eqb p.number 0 ≡ b → cond b q p ≡ p
    go true e = let z : p.number ≡ 0 = eqb-true _ _ e in absurd (subst T (sym (sym (ap is_stop z) ∙ h)) tt)
    go false e = refl

stop_code : (b : List ℕ) → NoSheet b → is_stop (mark_code (own_bytes b)).number ≡ true
unfolding mark_code read_code
stop_code b h =
    let o = own_bytes b in
    let f = first_stops o (no_sheet_left b h) in
    let r : read_code o ≡ first_code (read_order o) = stop_stays (first_code (read_order o)) (turn_code (version_in o) empty_sheet (steps_in (version_in o) o)) f in
    let g : is_stop (read_code o).number ≡ true = ap (λ (p : Code). is_stop p.number) r ∙ f in
    ap (λ (p : Code). is_stop p.number) (stop_stays (read_code o) (judge_code (method_number D100) (read_in o).sheet) g) ∙ g

stops_here : (b : List ℕ) → NoSheet b → stops (marked (own_bytes b)) ≡ true
stops_here b h = ap (λ (p : Code). is_stop p.number) (mark_code_lem (own_bytes b)) ∙ stop_code b h

-- ---- FILES: WHOLE SHEETS END TO END, AND NOTHING BEHIND THEM, OR NO SHEET; AND AFTER THE 10,000TH ANYTHING

one_read : (b r : List ℕ) (room : ℕ) → WholeSheet b → judgements (suc room) (b ++ r) ≡ marked b ∷ judgements room r
unfolding judgements
one_read [] r room w = absurd (omega (arith, w.whole))
one_read (x ∷ xs) r room w =
    let b = x ∷ xs in
    let h : own_length b ≤ length b = omega (arith, w.whole) in
    let own : own_bytes (b ++ r) ≡ b = same_bytes b r h ∙ take_all (own_length b) b (omega (arith, w.whole)) in
    let after : after_own (b ++ r) ≡ r = same_after b r h ∙ ap (λ (y : List ℕ). y ++ r) (drop_of_length-le b (omega (arith, w.whole))) in
    rw (own, after, goes_on b w) refl

all_read : (bs : List (List ℕ)) (r : List ℕ) (room : ℕ) → EachWhole bs → judgements (length bs + room) (concat bs ++ r) ≡ map marked bs ++ judgements room r
all_read [] r room w = ap (λ (n : ℕ). judgements n r) (zero-add room)
all_read (b ∷ bs) r room w =
    let n : suc (length bs) + room ≡ suc (length bs + room) = omega arith in
    rw (n, append_assoc b (concat bs) r)
    (one_read b (concat bs ++ r) (length bs + room) w.0 ∙ ap (λ (js : List Judgement). marked b ∷ js) (all_read bs r room w.1))

no_room : (b : List ℕ) → judgements 0 b ≡ []
unfolding judgements
no_room b = refl

nothing_left : (room : ℕ) → judgements room [] ≡ []
unfolding judgements
nothing_left zero = refl
nothing_left (suc room) = refl

one_left : (r : List ℕ) (room : ℕ) → 0 < length r → NoSheet r → judgements (suc room) r ≡ marked (own_bytes r) ∷ []
unfolding judgements
one_left [] room h e = absurd (omega arith)
one_left (x ∷ xs) room h e = rw (stops_here (x ∷ xs) e) refl

pub whole_file : (bs : List (List ℕ)) → EachWhole bs → length bs ≤ 10000 → tallied (concat bs) ≡ tally_of (map marked bs)
unfolding tallied
whole_file bs w h =
    let n : length bs + (10000 - length bs) ≡ most_sheets = omega (arith, h) in
    ap tally_of
    (ap (λ (b : List ℕ). judgements most_sheets b) (sym (append-nil (concat bs)))
    ∙ rw n at (all_read bs [] (10000 - length bs) w)
    ∙ ap (λ (js : List Judgement). map marked bs ++ js) (nothing_left (10000 - length bs))
    ∙ append-nil (map marked bs))

pub past_the_most : (bs : List (List ℕ)) (r : List ℕ) → EachWhole bs → length bs ≡ 10000 → tallied (concat bs ++ r) ≡ tally_of (map marked bs)
unfolding tallied
past_the_most bs r w h =
    let n : length bs + 0 ≡ most_sheets = omega (arith, h) in
    ap tally_of
    (rw n at (all_read bs r 0 w) ∙ ap (λ (js : List Judgement). map marked bs ++ js) (no_room r) ∙ append-nil (map marked bs))

pub ended_file : (bs : List (List ℕ)) (r : List ℕ) → EachWhole bs → length bs < 10000 → 0 < length r → NoSheet r
    → tallied (concat bs ++ r) ≡ tally_of (map marked bs ++ marked (own_bytes r) ∷ [])
unfolding tallied
ended_file bs r w h some e =
    let n : length bs + suc (9999 - length bs) ≡ most_sheets = omega (arith, h) in
    ap tally_of
    (rw n at (all_read bs r (suc (9999 - length bs)) w)
    ∙ ap (λ (js : List Judgement). map marked bs ++ js) (one_left r (9999 - length bs) some e))

-- ---- AND NO MORE IS NEEDED: after the 10,000th sheet, nor behind a length that no sheet has

one_part : (b r : List ℕ) (room : ℕ) (t : Tally) → WholeSheet b → after_part (suc room) t false (b ++ r) ≡ after_part room (counted t (marked b)) false r
unfolding after_part
one_part b r room t w =
    let h : own_length b ≤ length b = omega (arith, w.whole) in
    let own : own_bytes (b ++ r) ≡ b = same_bytes b r h ∙ take_all (own_length b) b (omega (arith, w.whole)) in
    let after : after_own (b ++ r) ≡ r = same_after b r h ∙ ap (λ (y : List ℕ). y ++ r) (drop_of_length-le b (omega (arith, w.whole))) in
    rw (whole_ready b r h, own, after, goes_on b w) refl

all_part : (bs : List (List ℕ)) (r : List ℕ) (room : ℕ) (t : Tally) → EachWhole bs
    → after_part (length bs + room) t false (concat bs ++ r) ≡ after_part room (counted_all t (map marked bs)) false r
all_part [] r room t w = ap (λ (n : ℕ). after_part n t false r) (zero-add room)
all_part (b ∷ bs) r room t w =
    let n : suc (length bs) + room ≡ suc (length bs + room) = omega arith in
    rw (n, append_assoc b (concat bs) r) (one_part b (concat bs ++ r) (length bs + room) t w.0 ∙ all_part bs r room (counted t (marked b)) w.1)

none_after : (t : Tally) (r : List ℕ) → (after_part 0 t false r).progress.room ≡ 0
unfolding after_part
none_after t r = refl

pub enough_at_the_most : (bs : List (List ℕ)) (r : List ℕ) → EachWhole bs → length bs ≡ 10000 → (after_bytes (concat bs ++ r)).progress.room ≡ 0
enough_at_the_most bs r w h =
    let n : length bs + 0 ≡ most_sheets = omega (arith, h) in
    ap (λ (l : AfterPart). l.progress.room) (rw n at (all_part bs r 0 no_tally w)) ∙ none_after (counted_all no_tally (map marked bs)) r

bad_part : (r : List ℕ) (room : ℕ) (t : Tally) → has_bad_length r ≡ true → (after_part (suc room) t false r).progress.room ≡ 0
unfolding after_part
bad_part r room t e = rw (bad_ready r e, bad_marked r e) refl

pub enough_at_a_bad_length : (bs : List (List ℕ)) (r : List ℕ) → EachWhole bs → length bs < 10000 → 2 ≤ length r → is_usable (two_in r) ≡ false
    → (after_bytes (concat bs ++ r)).progress.room ≡ 0
enough_at_a_bad_length bs r w h some u =
    let n : length bs + suc (9999 - length bs) ≡ most_sheets = omega (arith, h) in
    ap (λ (l : AfterPart). l.progress.room) (rw n at (all_part bs r (suc (9999 - length bs)) no_tally w))
    ∙ bad_part r (9999 - length bs) (counted_all no_tally (map marked bs)) (bad_from r some u)

-- ---- 12 CANNOT OCCUR

pub twelve_never : (b : List ℕ) → (answer_code (marked (own_bytes b)).answer).number ≡ 12 → ⊥
unfolding is_early
twelve_never b e = go (is_usable (two_in b)) refl (dec_le (own_length b) (length b))
  where
    found : NoSheet b → ⊥
    found h = subst T (sym (sym (ap is_stop e) ∙ stops_here b h)) tt

    go : (u : Bool) → is_usable (two_in b) ≡ u → Dec (own_length b ≤ length b) → ⊥
    go false k d = found (inl k)
    go true k (no f) = found (inr (lt_of_not-le f))
    go true k (yes l) =
        let w : WholeSheet (own_bytes b) = record { usable = ap is_usable (own_two b) ∙ k; whole = omega (arith, own_two b, length-take (own_length b) b) } in
        subst T (sym (ap is_early e) ∙ ap (λ (p : Code). is_early p.number) (mark_code_lem (own_bytes b)) ∙ whole_code (own_bytes b) w) tt
