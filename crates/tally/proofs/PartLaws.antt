-- The laws of a part of a file: what one sheet more makes of it; and that it does not matter where a file is cut into parts.
-- Assumes nothing.
use Rattle.std.specs.Prelude.{Option, Some, Err}
use mathlib.Core.Path.{◌≡◌, refl, sym, ap, ◌∙◌}
use mathlib.Core.Bool.{Bool, true, false, cond}
use mathlib.Core.List.{List, [], ◌∷◌, ◌++◌, map}
use Prim.Native.Nat.{ℕ, zero, suc, ◌+◌, ◌*◌, ◌-◌, ◌≤◌, ◌<◌, min}
use native.Mathlib.Omega.{arith}
use native.Mathlib.Nat.{add-zero}
use lib.Dec.{T, leb}
use lib.IntN.{ℤ, pos, nat_abs, ◌+ℤ◌}
use lib.ListN.{length, get_or, take, drop, length-take, length-drop, drop_of_length-le}
use lib.Seq.{take_all}
use mir.Facts.{and_yes, leb_yes}
use Rattle.std.specs.List.{list_all}
use Rattle.std.proofs.lemmas.Int.{ints}
use Rattle.std.proofs.lemmas.List.{take_min, drop_min, take_more, map-append, drop-drop}
use Rattle.lists.proofs.EachLaws.{each_at}
use Rattle.rules.specs.Bounds.{most_required}
use Rattle.reports.specs.declared.report.CourseLine.{CourseLine}
use Rattle.reports.specs.declared.report.Judgement.{Judgement}
use Rattle.reports.specs.declared.report.Report.{Report}
use Rattle.reports.specs.declared.report.Word.TheVariants.{Sound, Short}
use Rattle.fields.specs.declared.refusal.Refusal.{Refusal}
use Rattle.fields.specs.Order.{accepts}
use Rattle.marking.specs.Marking.{marked}
use Rattle.tally.specs.Tally.{own_length, own_bytes, after_own, stops, difference, differences_on, sum_of, least_of, most_sheets}
use Rattle.tally.specs.Parts.{lesser, counted, with_differences, with_report, passed, is_ready, leaves, reply_of, after_part, is_measured, Measured, Within}
use Rattle.tally.specs.declared.tally.Tally.{Tally}
use Rattle.tally.specs.declared.progress.Progress.{Progress}
use Rattle.tally.proofs.TallyLaws.{sum_append, least_append, lesser_none, lesser_assoc, one_of}

-- ---- the courses of a report, one by one

differences_next : (cs : List CourseLine) (i : ℕ) (d : CourseLine) → i < length cs
    → map difference (take (i + 1) cs) ≡ map difference (take i cs) ++ difference (get_or cs i d) ∷ []
differences_next cs i d h = ap (map difference) (take_more cs i d h) ∙ map-append difference (take i cs) (get_or cs i d ∷ [])

module _ (cs : List CourseLine) (i : ℕ) (d : CourseLine) {r : ℤ} (h : i < length cs) (e : r ≡ difference (get_or cs i d)) where
  pub sum_more : sum_of (map difference (take (i + 1) cs)) ≡ sum_of (map difference (take i cs)) +ℤ r
  sum_more =
      rw e (ap sum_of (differences_next cs i d h) ∙ sum_append (map difference (take i cs)) (difference (get_or cs i d) ∷ []) ∙ omega (arith, ints))

  pub least_more : (x : Option ℤ) {l : Option ℤ} → l ≡ lesser x (least_of (map difference (take i cs)))
      → lesser l (Some r) ≡ lesser x (least_of (map difference (take (i + 1) cs)))
  least_more x {l} f =
      let ds = map difference (take i cs) in
      let z = difference (get_or cs i d) in
      rw (e, f)
      (lesser_assoc x (least_of ds) (Some z) ∙ ap (lesser x) (sym (ap least_of (differences_next cs i d h) ∙ least_append ds (z ∷ []))))

  -- each is at most 8,905 from 0
  pub one_bounded : T (list_all is_measured cs) → nat_abs r ≤ most_required
  one_bounded t =
      let c = get_or cs i d in
      let m = and_yes (leb c.required most_required) (leb c.plate most_required) (each_at is_measured cs i d h t) in
      rw e (omega (arith, ints, leb_yes m.0, leb_yes m.1))

pub sum_bounded : (cs : List CourseLine) (i : ℕ) → T (list_all is_measured cs) → nat_abs (sum_of (map difference (take i cs))) ≤ most_required * i
sum_bounded cs zero t = omega (arith, ints)
sum_bounded [] (suc i) t = omega (arith, ints)
sum_bounded (c ∷ cs) (suc i) t =
    let s = and_yes (is_measured c) (list_all is_measured cs) t in
    omega (arith, ints, one_bounded (c ∷ cs) 0 c (omega arith) refl t, sum_bounded cs i s.1)

-- ---- one sheet more

pub taken_next : (p : Progress) (ended : Bool) (b : List ℕ) → 0 < p.room → is_ready ended b ≡ true
    → let q = passed p (marked (own_bytes b)) in after_part q.room q.tally ended (after_own b) ≡ after_part p.room p.tally ended b
unfolding after_part
taken_next p ended b h e = go p.room h
  where
    t : Tally
    t = counted p.tally (marked (own_bytes b))

    last : (s : Bool) (k : ℕ) → after_part (cond s 0 k) t ended (after_own b) ≡ cond s (leaves 0 t []) (after_part k t ended (after_own b))
    last true k = refl
    last false k = refl

    go : (room : ℕ) → 0 < room → after_part (cond (stops (marked (own_bytes b))) 0 (room - 1)) t ended (after_own b) ≡ after_part room p.tally ended b
    go zero h = absurd (omega arith)
    go (suc k) h =
        let k_is : suc k - 1 ≡ k = omega arith in
        rw (e, k_is) (last (stops (marked (own_bytes b))) k)

-- as the code parts it off
pub sheet_taken : (p : Progress) (ended : Bool) (b : List ℕ) {k : ℕ} {sheet after : List ℕ} {j : Judgement} {q : Progress} → 0 < p.room
    → is_ready ended b ≡ true → k ≡ min (own_length b) (length b) → sheet ≡ take k b → after ≡ drop k b → j ≡ marked sheet → q ≡ passed p j
    → after_part q.room q.tally ended after ≡ after_part p.room p.tally ended b
sheet_taken p ended b h r e f g m n =
    rw (n, m, f, g, e, take_min (own_length b) b, drop_min (own_length b) b) (taken_next p ended b h r)

-- none is read of what is left, for want of bytes; and none is read any more
taken_last : (p : Progress) (ended : Bool) (b : List ℕ) → 0 < p.room → is_ready ended b ≡ false → after_part p.room p.tally ended b ≡ leaves p.room p.tally b
unfolding after_part
taken_last p ended b h e = go p.room h
  where
    go : (room : ℕ) → 0 < room → after_part room p.tally ended b ≡ leaves room p.tally b
    go zero h = absurd (omega arith)
    go (suc k) h = rw e refl

taken_all : (p : Progress) (ended : Bool) (b : List ℕ) → p.room ≡ 0 → after_part p.room p.tally ended b ≡ leaves p.room p.tally []
unfolding after_part
taken_all p ended b e = rw e refl

-- ---- one judgement more, by its kind

pub sound_more : (t : Tally) (r : Report) {u : Tally} → u ≡ with_differences t (map difference (take r.count r.lines)) → r.word ≡ Sound
    → record u { read = u.read + 1; sound = u.sound + 1 } ≡ with_report t r
unfolding counted
sound_more t r e w = rw (e, w, add-zero t.short, add-zero t.refused) refl

pub short_more : (t : Tally) (r : Report) {u : Tally} → u ≡ with_differences t (map difference (take r.count r.lines)) → r.word ≡ Short
    → record u { read = u.read + 1; short = u.short + 1 } ≡ with_report t r
unfolding counted
short_more t r e w = rw (e, w, add-zero t.sound, add-zero t.refused) refl

pub refused_more : (t : Tally) (j : Judgement) {q : Refusal} → j.answer ≡ Err q → record t { read = t.read + 1; refused = t.refused + 1 } ≡ counted t j
unfolding counted
refused_more t j e =
    let z : t.sum +ℤ pos 0 ≡ t.sum = omega (arith, ints) in
    rw (e, z, add-zero t.sound, add-zero t.short, lesser_none t.least) refl

-- ---- and it stays within bounds

accepted_bounded : (r : Report) → Measured r → nat_abs (sum_of (map difference (take r.count r.lines))) ≤ 12 * most_required
accepted_bounded r m =
    let cs = take r.count r.lines in
    let e : take 12 cs ≡ cs = take_all 12 cs (omega (arith, length-take r.count r.lines, m.few)) in
    omega (arith, rw e at (sum_bounded cs 12 m.lines))

sum_on : (j : Judgement) → Measured j.report → nat_abs (sum_of (differences_on j)) ≤ 12 * most_required
sum_on j m = go (accepts j.answer)
  where
    go : (a : Bool) → nat_abs (sum_of (cond a (map difference (take j.report.count j.report.lines)) [])) ≤ 12 * most_required
    go true = accepted_bounded j.report m
    go false = omega (arith, ints)

pub passed_within : (p : Progress) (j : Judgement) → Within p → 0 < p.room → Measured j.report → Within (passed p j)
unfolding counted
passed_within p j w h m = record { room = go (stops j); bounded = record { adds_up = omega (arith, w.bounded.adds_up, one_of j); sum = omega (arith, ints, w.bounded.sum, sum_on j m) } }
  where
    go : (s : Bool) → p.tally.read + 1 + cond s 0 (p.room - 1) ≤ most_sheets
    go true = omega (arith, w.room)
    go false = omega (arith, w.room)

-- what stands behind the end of a list is its end
pub end_of : (part : List ℕ) {b c : List ℕ} {k : ℕ} → b ≡ drop (length part - length b) part → length b ≤ length part → c ≡ drop k b → k ≤ length b
    → c ≡ drop (length part - length c) part
end_of part {b} {c} {k} e s f h =
    let n : length c ≡ length b - k = ap length f ∙ length-drop k b in
    let m : length part - length b + k ≡ length part - length c = omega (arith, n) in
    f ∙ ap (drop k) e ∙ drop-drop k (length part - length b) part ∙ ap (λ (i : ℕ). drop i part) m

pub last_taken : (p : Progress) (ended : Bool) (part : List ℕ) {b : List ℕ} → b ≡ drop (length part - length b) part → 0 < p.room → is_ready ended b ≡ false
    → reply_of (record { progress = p; used = length part - length b }) part ≡ after_part p.room p.tally ended b
last_taken p ended part {b} e h f = ap (λ (r : List ℕ). record { progress = p; rest = r }) (sym e) ∙ sym (taken_last p ended b h f)

pub all_taken : (p : Progress) (ended : Bool) (part b : List ℕ) → p.room ≡ 0
    → reply_of (record { progress = p; used = length part }) part ≡ after_part p.room p.tally ended b
all_taken p ended part b e =
    ap (λ (r : List ℕ). record { progress = p; rest = r }) (drop_of_length-le part (omega arith)) ∙ sym (taken_all p ended b e)
