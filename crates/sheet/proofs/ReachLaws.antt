-- What the tests `consistent` and `reachable` say of a sheet, and that every step keeps them, of either version the first
-- (`filled_consistent`), of version 2 both (`step_reachable`). That the second passes exactly the sheets that some run leaves is in RunLaws.
-- Assumes nothing.
use Rattle.entries.specs.declared.sheet.Tank.{Tank}
use Rattle.entries.specs.declared.sheet.Site.{Site}
use Rattle.entries.specs.declared.sheet.Anchors.{Anchors}
use Rattle.std.specs.Prelude.{Option, Some, None, is_none, Ok, Err}
use mathlib.Core.Path.{◌≡◌, refl, sym, ◌∙◌, subst}
use mathlib.Core.Bool.{Bool, true, false, not, ◌&&◌, ◌||◌}
use mathlib.Core.List.{List, [], ◌∷◌, ◌++◌}
use Prim.Native.Nat.{ℕ, suc, ◌+◌, ◌≤◌, ◌<◌}
use native.Mathlib.Numerals.{add-one}
use native.Mathlib.Omega.{arith}
use lib.Dec.{T, leb, eqb}
use lib.ListN.{length, get_or, take, drop, set, length-set}
use Rattle.std.proofs.lemmas.List.Folds.{list_all-append}
use lib.Seq.{drop-set-lt, drop-cons}
use mir.Facts.{and_yes, yes_and, leb_yes, yes_leb, eqb_yes, yes_eqb}
use borrow.Author.Tests.{not-false, leb-false, ltb-false, eqb-false, ne_eqb}
use Rattle.std.proofs.lemmas.Bool.{not-true}
use Rattle.fields.specs.declared.refusal.Refusal.TheVariants.{TankStated, NoTank, CoursesFull}
use Rattle.fields.specs.Bolt.{discontinued}
use Rattle.fields.specs.Order.{Answer, ◌when◌, first_of, clear}
use Rattle.fields.proofs.OrderLaws.{clash, accepted_clear, first_cons, first_append}
use Rattle.entries.specs.Sheet.{course_figures, blank_course, empty_sheet, held, height_of}
use Rattle.flaws.specs.Flaws.{too_high, size_discontinued, tank_flaws, site_flaws, anchor_flaws, course_flaws, tank_of}
use Rattle.parts.specs.Parts.{blank, site_clear, anchors_clear, courses_clear, courses_blank, slots_reachable, parts_reachable}
use Rattle.layout.specs.declared.version.Version.{Version}
use Rattle.layout.specs.declared.version.Version.TheVariants.{Two}
use Rattle.sheet.specs.Steps.{size_flaws, order_of, filled, replied, applied, consistent, fits_version_1, size_reachable, reachable, stated}
use Rattle.sheet.specs.declared.steps.Step.{Step}
use Rattle.sheet.specs.declared.steps.Step.TheVariants.{StateTank, StateSite, StateAnchors, AddCourse}
use Rattle.entries.specs.declared.sheet.Course.{Course}
use Rattle.entries.specs.declared.sheet.Sheet.{Sheet}
use Rattle.sheet.specs.declared.steps.Reply.{Reply}
use Rattle.sheet.proofs.StepLaws.{stated_applied}
use Rattle.lists.proofs.BoolLaws.{T_true, three_yes, yes_three}
use Rattle.entries.proofs.CourseLaws.{take_set, height_append}

-- ---- what the test says

pub record Slots (cs : List Course) (n : ℕ) : Type 0 where
  pub twelve : length cs ≡ 12
  pub few : n ≤ 12
  pub clear : T (courses_clear (take n cs))
  pub low : height_of (take n cs) ≤ 76800
  pub rest : T (courses_blank (drop n cs))

module _ (cs : List Course) (n : ℕ) where
  abbrev p : Bool
  p = eqb (length cs) 12 && leb n 12 && courses_clear (take n cs)

  pub slots_of : T (slots_reachable cs n) → Slots cs n
  unfolding slots_reachable
  slots_of h =
      let b = three_yes p (leb (height_of (take n cs)) 76800) (courses_blank (drop n cs)) h in
      let a = three_yes (eqb (length cs) 12) (leb n 12) (courses_clear (take n cs)) b.0 in
      record { twelve = eqb_yes a.0; few = leb_yes a.1; clear = a.2; low = leb_yes b.1; rest = b.2 }

  pub of_slots : Slots cs n → T (slots_reachable cs n)
  unfolding slots_reachable
  of_slots s =
      yes_three p (leb (height_of (take n cs)) 76800) (courses_blank (drop n cs))
      (yes_three (eqb (length cs) 12) (leb n 12) (courses_clear (take n cs)) (yes_eqb s.twelve) (yes_leb s.few) s.clear)
      (yes_leb s.low)
      s.rest

module _ (s : Sheet) where
  pub consistent_halves : T (consistent s) → T (slots_reachable s.courses s.count) × T (parts_reachable s.tank s.site s.anchors s.count)
  unfolding consistent
  consistent_halves h = and_yes (slots_reachable s.courses s.count) (parts_reachable s.tank s.site s.anchors s.count) h

  halves_consistent : Slots s.courses s.count → T (parts_reachable s.tank s.site s.anchors s.count) → T (consistent s)
  unfolding consistent
  halves_consistent a b =
      yes_and (slots_reachable s.courses s.count) (parts_reachable s.tank s.site s.anchors s.count)
      (of_slots s.courses s.count a)
      b

  pub slots_held : T (consistent s) → Slots s.courses s.count
  slots_held h = slots_of s.courses s.count (consistent_halves h).0

  pub reach_halves : T (reachable s) → T (consistent s) × T (size_reachable s.tank s.site s.anchors s.count)
  unfolding reachable
  reach_halves h = and_yes (consistent s) (size_reachable s.tank s.site s.anchors s.count) h

  pub halves_reach : T (consistent s) → T (size_reachable s.tank s.site s.anchors s.count) → T (reachable s)
  unfolding reachable
  halves_reach a b = yes_and (consistent s) (size_reachable s.tank s.site s.anchors s.count) a b

  pub reach_slots : T (reachable s) → Slots s.courses s.count
  reach_slots h = slots_held (reach_halves h).0

-- ---- every step keeps the first

-- an entry that is not stated; and one that is
pub none_stated : {A : Type 0} (e : Option A) → T (is_none e) → e ≡ None
none_stated None h = refl
none_stated (Some x) h = absurd h

pub record Held {A : Type 0} (e : Option A) : Type 0 where
  pub entry : A
  pub is : e ≡ Some entry

pub held_some : {A : Type 0} (e : Option A) → is_none e ≡ false → Held e
held_some None h = absurd (subst T h tt)
held_some (Some x) h = record { entry = x; is = refl }

-- one course more
course_slots : (cs : List Course) (n : ℕ) (c : Course) → Slots cs n → n < 12 → T (clear (course_flaws c))
    → height_of (take n cs) + c.width ≤ 76800 → Slots (set cs n c) (n + 1)
unfolding courses_clear courses_blank
course_slots cs n c s h k l =
    let e = take_set cs n c (omega (arith, s.twelve)) in
    record {
      twelve = length-set cs n c ∙ s.twelve;
      few = omega arith;
      clear = rw (e, list_all-append (λ x. clear (course_flaws x)) (take n cs) (c ∷ []))
          (yes_and (courses_clear (take n cs)) (clear (course_flaws c) && true) s.clear (yes_and (clear (course_flaws c)) true k tt));
      low = rw e (omega (arith, height_append (take n cs) (c ∷ [])));
      rest = rw (add-one n, drop-set-lt (suc n) cs n c (omega arith)) (and_yes (blank (course_figures (get_or cs n blank_course))) (courses_blank (drop (suc n) cs)) (rw (drop-cons cs n blank_course (omega (arith, s.twelve))) at s.rest)).1;
    }

-- what an accepted course says
record CourseTaken (s : Sheet) (c : Course) : Type 0 where
  tank : is_none s.tank ≡ false
  room : s.count < 12
  clear : T (clear (course_flaws c))
  low : height_of (held s) + c.width ≤ 76800

course_taken : (v : Version) (s : Sheet) (c : Course) → first_of (order_of v s (AddCourse c)) ≡ Ok tt → CourseTaken s c
course_taken v s c e =
    let high = too_high (height_of (held s)) c in
    let o = first_cons (NoTank when is_none s.tank) ((CoursesFull when leb 12 s.count) ∷ (course_flaws c ++ high ∷ [])) e in
    let f = first_cons (CoursesFull when leb 12 s.count) (course_flaws c ++ high ∷ []) o.1 in
    let g = first_append (course_flaws c) (high ∷ []) f.1 in
    record {
      tank = o.0;
      room = leb-false 12 s.count f.0;
      clear = accepted_clear (course_flaws c) g.0;
      low = ltb-false 76800 (height_of (held s) + c.width) (first_cons high [] g.1).0;
    }

-- and accepted anchors
pub anchors_taken : (v : Version) (s : Sheet) (d : Held s.tank) (a : Anchors) → first_of (order_of v s (StateAnchors a)) ≡ Ok tt
    → (first_of (anchor_flaws d.entry.diameter a) ≡ Ok tt) × (first_of (size_flaws v a) ≡ Ok tt)
anchors_taken v s d a e =
    let o = first_cons (NoTank when is_none s.tank) (anchor_flaws (tank_of s.tank).diameter a ++ size_flaws v a) e in
    first_append (anchor_flaws d.entry.diameter a) (size_flaws v a)
    (subst (λ (e : Option Tank). first_of (anchor_flaws (tank_of e).diameter a ++ size_flaws v a) ≡ Ok tt) d.is o.1)

module _ (s : Sheet) (h : T (consistent s)) where
  parts : T (parts_reachable s.tank s.site s.anchors s.count)
  parts = (consistent_halves s h).1

  pub parts_held : (d : Held s.tank) → T (clear (tank_flaws d.entry)) × T (site_clear s.site) × T (anchors_clear d.entry.diameter s.anchors)
  parts_held d =
      three_yes (clear (tank_flaws d.entry)) (site_clear s.site) (anchors_clear d.entry.diameter s.anchors)
      (subst (λ (e : Option Tank). T (parts_reachable e s.site s.anchors s.count)) d.is parts)

  held_parts : (d : Held s.tank) (x : Option Site) (a : Option Anchors) (n : ℕ) → T (site_clear x) → T (anchors_clear d.entry.diameter a)
      → T (parts_reachable s.tank x a n)
  held_parts d x a n y z =
      subst (λ (e : Option Tank). T (parts_reachable e x a n)) (sym d.is)
      (yes_three (clear (tank_flaws d.entry)) (site_clear x) (anchors_clear d.entry.diameter a) (parts_held d).0 y z)

  -- before the tank nothing is stated
  pub nothing_stated : is_none s.tank ≡ true → (s.site ≡ None) × (s.anchors ≡ None) × (s.count ≡ 0)
  nothing_stated e =
      let b = three_yes (is_none s.site) (is_none s.anchors) (eqb s.count 0)
      (subst (λ (e : Option Tank). T (parts_reachable e s.site s.anchors s.count)) (none_stated s.tank (subst T (sym e) tt)) parts) in
      (none_stated s.site b.0, none_stated s.anchors b.1, eqb_yes b.2)

  module _ (v : Version) where
    -- A STEP OF EITHER VERSION ON A CONSISTENT SHEET LEAVES ONE
    pub filled_consistent : (x : Step) → first_of (order_of v s x) ≡ Ok tt → T (consistent (filled s x))
    filled_consistent (StateTank t) e =
        let o = first_cons (TankStated when not (is_none s.tank)) (tank_flaws t) e in
        let b = nothing_stated (not-false (is_none s.tank) o.0) in
        halves_consistent (filled s (StateTank t)) (slots_held s h)
        (yes_three (clear (tank_flaws t)) (site_clear s.site) (anchors_clear t.diameter s.anchors)
        (accepted_clear (tank_flaws t) o.1)
        (subst (λ (x : Option Site). T (site_clear x)) (sym b.0) tt)
        (subst (λ (a : Option Anchors). T (anchors_clear t.diameter a)) (sym b.1) tt))
    filled_consistent (StateSite x) e =
        let o = first_cons (NoTank when is_none s.tank) (site_flaws x) e in
        let d = held_some s.tank o.0 in
        halves_consistent (filled s (StateSite x)) (slots_held s h)
        (held_parts d (Some x) s.anchors s.count (accepted_clear (site_flaws x) o.1) (parts_held d).2)
    filled_consistent (StateAnchors a) e =
        let o = first_cons (NoTank when is_none s.tank) (anchor_flaws (tank_of s.tank).diameter a ++ size_flaws v a) e in
        let d = held_some s.tank o.0 in
        halves_consistent (filled s (StateAnchors a)) (slots_held s h)
        (held_parts d s.site (Some a) s.count (parts_held d).1 (accepted_clear (anchor_flaws d.entry.diameter a) (anchors_taken v s d a e).0))
    filled_consistent (AddCourse c) e =
        let k = course_taken v s c e in
        let d = held_some s.tank k.tank in
        halves_consistent (filled s (AddCourse c))
        (course_slots s.courses s.count c (slots_held s h) k.room k.clear k.low)
        (held_parts d s.site s.anchors (s.count + 1) (parts_held d).1 (parts_held d).2)

    pub held_next : (c : Course) → first_of (order_of v s (AddCourse c)) ≡ Ok tt → held (filled s (AddCourse c)) ≡ held s ++ (c ∷ [])
    held_next c e =
        let room = (course_taken v s c e).room in
        take_set s.courses s.count c (omega (arith, room, (slots_held s h).twelve))

-- a step that is accepted
pub applied_accepted : (v : Version) (s : Sheet) (x : Step) → (applied v s x).answer ≡ Ok tt
    → (first_of (order_of v s x) ≡ Ok tt) × ((applied v s x).sheet ≡ filled s x)
unfolding applied
applied_accepted v s x e = go (first_of (order_of v s x)) e
  where
    go : (a : Answer) → (replied a s (filled s x)).answer ≡ Ok tt → (a ≡ Ok tt) × ((replied a s (filled s x)).sheet ≡ filled s x)
    go (Ok u) e = (refl, refl)
    go (Err r) e = clash e

pub empty_reachable : T (reachable empty_sheet)
unfolding reachable consistent slots_reachable courses_clear courses_blank
empty_reachable = tt

-- ---- and version 2's the second: no size is stated that is discontinued, and of what version 1 gives none is taken away

pub size_current : (a : Anchors) → first_of (size_flaws Two a) ≡ Ok tt → discontinued a.size ≡ false
size_current a e = (first_cons (size_discontinued a) [] e).0

-- what version 1 gives
pub record FitsOne (t : Tank) (x : Option Site) (n : ℕ) : Type 0 where
  pub water : t.gravity ≡ 1000
  pub site : Held x
  pub course : n ≡ 0 → ⊥

module _ (t : Tank) (x : Option Site) (n : ℕ) where
  pub fits_of : T (fits_version_1 (Some t) x n) → FitsOne t x n
  fits_of h =
      let b = three_yes (eqb t.gravity 1000) (not (is_none x)) (not (eqb n 0)) h in
      record {
        water = eqb_yes b.0;
        site = held_some x (not-true (is_none x) (T_true (not (is_none x)) b.1));
        course = eqb-false n 0 (not-true (eqb n 0) (T_true (not (eqb n 0)) b.2));
      }

  pub of_fits : FitsOne t x n → T (fits_version_1 (Some t) x n)
  of_fits g = rw (g.water, g.site.is, ne_eqb n 0 g.course) tt

size_still : (e : Option Tank) (x y : Option Site) (a : Option Anchors) (n m : ℕ) → T (size_reachable e x a n)
    → (Held x → Held y) → ((n ≡ 0 → ⊥) → m ≡ 0 → ⊥) → T (size_reachable e y a m)
size_still e x y None n m h f g = tt
size_still e x y (Some a) n m h f g = go e (not (discontinued a.size)) h
  where
    go : (e : Option Tank) (b : Bool) → T (b || fits_version_1 e x n) → T (b || fits_version_1 e y m)
    go e true h = tt
    go None false h = h
    go (Some t) false h = let k = fits_of t x n h in of_fits t y m (record { water = k.water; site = f k.site; course = g k.course })

filled_size : (s : Sheet) (h : T (reachable s)) (x : Step) → first_of (order_of Two s x) ≡ Ok tt
    → T (size_reachable (filled s x).tank (filled s x).site (filled s x).anchors (filled s x).count)
filled_size s h (StateTank t) e =
    let o = first_cons (TankStated when not (is_none s.tank)) (tank_flaws t) e in
    let b = nothing_stated s (reach_halves s h).0 (not-false (is_none s.tank) o.0) in
    subst (λ (a : Option Anchors). T (size_reachable (Some t) s.site a s.count)) (sym b.1) tt
filled_size s h (StateSite x) e = size_still s.tank s.site (Some x) s.anchors s.count s.count (reach_halves s h).1 (λ k. record { entry = x; is = refl }) (λ k. k)
filled_size s h (StateAnchors a) e =
    let o = first_cons (NoTank when is_none s.tank) (anchor_flaws (tank_of s.tank).diameter a ++ size_flaws Two a) e in
    let k = size_current a (anchors_taken Two s (held_some s.tank o.0) a e).1 in
    subst (λ (b : Bool). T (not b || fits_version_1 s.tank s.site s.count)) (sym k) tt
filled_size s h (AddCourse c) e =
    size_still s.tank s.site s.site s.anchors s.count (s.count + 1) (reach_halves s h).1 (λ k. k) (λ k z. omega (arith, z))

module _ (s : Sheet) (h : T (reachable s)) where
  -- A STEP ON A SHEET THAT PASSES THE TEST LEAVES ONE THAT DOES
  pub step_reachable : (x : Step) → T (reachable (applied Two s x).sheet)
  unfolding applied
  step_reachable x =
      go (first_of (order_of Two s x)) (λ e. halves_reach (filled s x) (filled_consistent s (reach_halves s h).0 Two x e) (filled_size s h x e))
    where
      go : (a : Answer) → (a ≡ Ok tt → T (reachable (filled s x))) → T (reachable (replied a s (filled s x)).sheet)
      go (Ok u) f = f refl
      go (Err r) f = h

-- and so does one on a sheet that is handed in
pub stated_reachable : (s : Sheet) (x : Step) → T (reachable s) → T (reachable (stated s x).sheet)
stated_reachable s x h = subst (λ (y : Reply). T (reachable y.sheet)) (sym (stated_applied s x (T_true (reachable s) h))) (step_reachable s h x)
