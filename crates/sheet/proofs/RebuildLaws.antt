-- A consistent sheet is rebuilt by the steps of what it holds, in any version that takes its anchors (`rebuilt`).
-- (RunLaws: so the test for 30 passes exactly the sheets that some run leaves.)
-- Assumes nothing.
use Rattle.entries.specs.declared.sheet.Site.{Site}
use Rattle.entries.specs.declared.sheet.Anchors.{Anchors}
use Rattle.std.specs.Prelude.{Option, Some, None, is_none, Ok}
use mathlib.Core.Path.{◌≡◌, refl, sym, ap, ◌∙◌}
use mathlib.Core.Bool.{true}
use mathlib.Core.List.{List, [], ◌∷◌, ◌++◌, map, append-nil}
use Prim.Native.Nat.{ℕ, ◌+◌, ◌-◌, ◌≤◌, ◌<◌}
use native.Mathlib.Omega.{arith}
use lib.Dec.{T, eqb}
use lib.ListN.{length, take, drop, replicate, take-append-drop, length-append, length-drop}
use lib.Seq.{length-take-le, take-append_seam, append_snoc}
use mir.Facts.{and_yes, eqb_yes}
use borrow.Author.Tests.{le-ltb}
use Rattle.fields.specs.Order.{clear, first_of}
use Rattle.fields.proofs.OrderLaws.{first_then, clear_accepted}
use Rattle.entries.specs.Sheet.{course_figures, blank_course, empty_sheet, held, height_of}
use Rattle.flaws.specs.Flaws.{tank_flaws, site_flaws, anchor_flaws, course_flaws}
use Rattle.parts.specs.Parts.{blank, site_clear, courses_clear, courses_blank}
use Rattle.layout.specs.declared.version.Version.{Version}
use Rattle.sheet.specs.Steps.{accepted, applied, size_flaws, consistent, in_turn}
use Rattle.sheet.specs.declared.steps.Step.{Step}
use Rattle.sheet.specs.declared.steps.Step.TheVariants.{StateTank, StateSite, StateAnchors, AddCourse}
use Rattle.entries.specs.declared.sheet.Tank.{Tank}
use Rattle.entries.specs.declared.sheet.Course.{Course}
use Rattle.entries.specs.declared.sheet.Sheet.{Sheet}
use Rattle.lists.specs.Pad.{padded}
use Rattle.lists.proofs.PadLaws.{padded_next}
use Rattle.entries.proofs.CourseLaws.{height_append, height_cons}
use Rattle.sheet.proofs.StepLaws.{tank_applied, site_applied, anchors_applied, course_applied, turn, turn_accepted}
use Rattle.sheet.proofs.ReachLaws.{Slots, Held, slots_held, nothing_stated, parts_held}

-- ---- a consistent sheet is its parts, with blank slots behind its courses

abbrev pub sheet_of : Option Tank → Option Site → Option Anchors → List Course → Sheet
sheet_of e x a h = record { tank = e; site = x; anchors = a; courses = padded blank_course h; count = length h }

blank_course_lem : (c : Course) → T (blank (course_figures c)) → c ≡ blank_course
blank_course_lem c h =
    let a = and_yes (eqb c.width 0) (blank (c.plate ∷ c.allowance ∷ c.stress ∷ c.efficiency ∷ [])) h in
    let b = and_yes (eqb c.plate 0) (blank (c.allowance ∷ c.stress ∷ c.efficiency ∷ [])) a.1 in
    let d = and_yes (eqb c.allowance 0) (blank (c.stress ∷ c.efficiency ∷ [])) b.1 in
    let e = and_yes (eqb c.stress 0) (blank (c.efficiency ∷ [])) d.1 in
    let v : c.width ≡ 0 = eqb_yes a.0 in
    let w : c.plate ≡ 0 = eqb_yes b.0 in
    let x : c.allowance ≡ 0 = eqb_yes d.0 in
    let y : c.stress ≡ 0 = eqb_yes e.0 in
    let z : c.efficiency ≡ 0 = eqb_yes (and_yes (eqb c.efficiency 0) true e.1).0 in
    let r : ◌≡◌ {A = Course} (record { width = c.width; plate = c.plate; allowance = c.allowance; stress = c.stress; efficiency = c.efficiency }) blank_course
    = cc in
    r

all_blank : (cs : List Course) → T (courses_blank cs) → cs ≡ replicate (length cs) blank_course
unfolding courses_blank
all_blank [] h = refl
all_blank (c ∷ cs) h =
    let a = and_yes (blank (course_figures c)) (courses_blank cs) h in
    let e = blank_course_lem c a.0 in
    let f = all_blank cs a.1 in
    cc

module _ (s : Sheet) (h : T (consistent s)) where
  slots : Slots s.courses s.count
  slots = slots_held s h

  pub held_length : length (held s) ≡ s.count
  held_length = length-take-le s.count s.courses (omega (arith, slots.few, slots.twelve))

  courses_padded : s.courses ≡ padded blank_course (held s)
  courses_padded =
      let n : length (drop s.count s.courses) ≡ 12 - length (held s)
      = omega (arith, held_length, length-drop s.count s.courses, slots.twelve, slots.few) in
      sym (take-append-drop s.count s.courses)
      ∙ ap (λ (l : List Course). held s ++ l) (all_blank (drop s.count s.courses) slots.rest ∙ ap (λ (k : ℕ). replicate k blank_course) n)

  pub as_parts : s ≡ sheet_of s.tank s.site s.anchors (held s)
  as_parts =
      ap (λ (l : List Course). record { tank = s.tank; site = s.site; anchors = s.anchors; courses = l; count = s.count }) courses_padded
      ∙ ap (λ (n : ℕ). record { tank = s.tank; site = s.site; anchors = s.anchors; courses = padded blank_course (held s); count = n }) (sym held_length)

-- ---- it is rebuilt from the empty sheet

module _ (v : Version) (t : Tank) (x : Option Site) (a : Option Anchors) where
  abbrev with : List Course → Sheet
  with h = sheet_of (Some t) x a h

  course_added : (h : List Course) (c : Course) → length h < 12 → T (clear (course_flaws c)) → height_of h + c.width ≤ 76800
      → applied v (with h) (AddCourse c) ≡ accepted (with (h ++ c ∷ []))
  course_added h c l k m =
      let n : length h + 1 ≡ length (h ++ c ∷ []) = omega (arith, length-append h (c ∷ [])) in
      course_applied v (with h) t refl c l
      ∙ rw (first_then (course_flaws c), clear_accepted (course_flaws c) k, take-append_seam h (replicate (12 - length h) blank_course), le-ltb _ _ m)
      (ap (λ (l : List Course). accepted (record { tank = Some t; site = x; anchors = a; courses = l; count = length h + 1 })) (padded_next blank_course h c (length h) refl l)
      ∙ ap (λ (n : ℕ). accepted (record { tank = Some t; site = x; anchors = a; courses = padded blank_course (h ++ c ∷ []); count = n })) n)

  courses_added : (rest h : List Course) → length h + length rest ≤ 12 → T (courses_clear rest) → height_of h + height_of rest ≤ 76800
      → in_turn v (with h) (map AddCourse rest) ≡ accepted (with (h ++ rest))
  unfolding courses_clear
  courses_added [] h l k m = ap (λ (r : List Course). accepted (with r)) (sym (append-nil h))
  courses_added (c ∷ rest) h l k m =
      let d = and_yes (clear (course_flaws c)) (courses_clear rest) k in
      turn v (with h) (AddCourse c) (map AddCourse rest) (course_added h c (omega arith) d.0 (omega (arith, height_cons c rest)))
      ∙ (courses_added rest (h ++ c ∷ []) (omega (arith, length-append h (c ∷ []))) d.1 (omega (arith, height_append h (c ∷ []), height_cons c rest))
      ∙ ap (λ (r : List Course). accepted (with r)) (append_snoc h c rest))

-- what a sheet holds, stated in document 01's order; a site or anchors that are blank are not stated
abbrev pub site_steps : Option Site → List Step
site_steps None = []
site_steps (Some x) = StateSite x ∷ []

abbrev pub anchors_steps : Option Anchors → List Step
anchors_steps None = []
anchors_steps (Some a) = StateAnchors a ∷ []

abbrev pub steps_of : Tank → Option Site → Option Anchors → List Course → List Step
steps_of t x a cs = StateTank t ∷ (site_steps x ++ (anchors_steps a ++ map AddCourse cs))

-- anchors that are not stated, or that a version takes on a tank of diameter D
abbrev pub Taken : Version → ℕ → Option Anchors → Type 0
Taken v D None = Unit {0}
Taken v D (Some a) = first_of (anchor_flaws D a ++ size_flaws v a) ≡ Ok tt

module _ (v : Version) (t : Tank) where
  abbrev bare : Option Site → Option Anchors → Sheet
  bare x a = sheet_of (Some t) x a []

  tank_first : T (clear (tank_flaws t))
      → applied v empty_sheet (StateTank t) ≡ accepted (bare None None)
  tank_first k = tank_applied v empty_sheet refl t ∙ rw (clear_accepted (tank_flaws t) k)

  site_next : (x : Option Site) (a : Option Anchors) (xs : List Step) → T (site_clear x)
      → in_turn v (bare None a) (site_steps x ++ xs) ≡ in_turn v (bare x a) xs
  site_next None a xs k = refl
  site_next (Some x) a xs k =
      turn_accepted v (bare None a) (StateSite x) xs (site_applied v (bare None a) t refl x) (clear_accepted (site_flaws x) k)

  anchors_next : (x : Option Site) (a : Option Anchors) (xs : List Step) → Taken v t.diameter a
      → in_turn v (bare x None) (anchors_steps a ++ xs) ≡ in_turn v (bare x a) xs
  anchors_next x None xs k = refl
  anchors_next x (Some a) xs k =
      turn_accepted v (bare x None) (StateAnchors a) xs (anchors_applied v (bare x None) t refl a) k

  all_stated : (x : Option Site) (a : Option Anchors) (cs : List Course)
      → T (clear (tank_flaws t)) → T (site_clear x) → Taken v t.diameter a
      → length cs ≤ 12 → T (courses_clear cs) → height_of cs ≤ 76800
      → in_turn v empty_sheet (steps_of t x a cs) ≡ accepted (sheet_of (Some t) x a cs)
  all_stated x a cs kt kx ka l kc m =
      turn v empty_sheet (StateTank t) (site_steps x ++ (anchors_steps a ++ map AddCourse cs)) (tank_first kt)
      ∙ site_next x None (anchors_steps a ++ map AddCourse cs) kx
      ∙ anchors_next x a (map AddCourse cs) ka
      ∙ courses_added v t x a cs [] (omega arith) kc (omega arith)

-- A CONSISTENT SHEET IS WHAT ITS OWN STEPS LEAVE
pub rebuilt : (v : Version) (s : Sheet) → T (consistent s) → (d : Held s.tank) → Taken v d.entry.diameter s.anchors
    → in_turn v empty_sheet (steps_of d.entry s.site s.anchors (held s)) ≡ accepted s
rebuilt v s h d k =
    let p = parts_held s h d in
    let l = slots_held s h in
    all_stated v d.entry s.site s.anchors (held s) p.0 p.1 k (omega (arith, held_length s h, l.few)) l.clear l.low
    ∙ ap (λ (e : Option Tank). accepted (sheet_of e s.site s.anchors (held s))) (sym d.is)
    ∙ ap accepted (sym (as_parts s h))

-- and one without a tank is empty
pub no_tank_empty : (s : Sheet) → T (consistent s) → s.tank ≡ None → s ≡ empty_sheet
no_tank_empty s h e =
    let b = nothing_stated s h (ap is_none e) in
    let c : held s ≡ [] = ap (λ (k : ℕ). take k s.courses) b.2 in
    as_parts s h
    ∙ ap (λ (e : Option Tank). sheet_of e s.site s.anchors (held s)) e
    ∙ ap (λ (x : Option Site). sheet_of None x s.anchors (held s)) b.0
    ∙ ap (λ (a : Option Anchors). sheet_of None None a (held s)) b.1
    ∙ ap (λ (l : List Course). sheet_of None None None l) c
