-- The laws of reading: the steps that bytes hold, in turn.
-- Assumes nothing.
use Rattle.std.specs.Prelude.{Some, Ok, Err}
use mathlib.Core.Path.{◌≡◌, refl, sym, ap, ◌∙◌}
use mathlib.Core.List.{List, [], ◌∷◌, ◌++◌, map}
use Prim.Native.Nat.{ℕ, ◌+◌, ◌*◌, ◌-◌, ◌≤◌, ◌<◌}
use native.Mathlib.Omega.{arith}
use lib.ListN.{set, take, drop}
use Rattle.fields.specs.declared.refusal.Refusal.{Refusal}
use Rattle.fields.specs.Order.{Answer, first_of}
use Rattle.entries.specs.Sheet.{empty_sheet, height_of}
use Rattle.flaws.specs.Flaws.{too_high, tank_flaws, site_flaws, anchor_flaws, course_flaws}
use Rattle.entries.specs.declared.sheet.Tank.{Tank}
use Rattle.entries.specs.declared.sheet.Site.{Site}
use Rattle.entries.specs.declared.sheet.Anchors.{Anchors}
use Rattle.entries.specs.declared.sheet.Course.{Course}
use Rattle.entries.specs.declared.sheet.Sheet.{Sheet}
use Rattle.layout.specs.declared.version.Version.{Version}
use Rattle.layout.specs.Numbers.{two_in}
use Rattle.layout.specs.Header.{tank_in, site_in, anchors_in, course_in, courses_in, tail_in, count_of}
use Rattle.layout.proofs.HeaderLaws.{courses_next}
use Rattle.layout.specs.declared.version.Version.TheVariants.{Two}
use Rattle.sheet.specs.Steps.{size_flaws, filled, refused, replied, applied, in_turn}
use Rattle.sheet.specs.declared.steps.Step.{Step}
use Rattle.sheet.specs.declared.steps.Step.TheVariants.{StateTank, StateSite, StateAnchors, AddCourse}
use Rattle.sheet.specs.declared.steps.Reply.{Reply}
use Rattle.sheet.specs.Reading.{from_courses, before_courses, steps_in, with_height}
use Rattle.sheet.proofs.StepLaws.{tank_applied, site_applied, anchors_applied, course_applied, turn_refused, turn_accepted, courses_in_turn}

-- the steps as they are read, part by part
steps_read : (v : Version) (b : List ℕ) {tail : List ℕ} {t : Tank} {x : Site} {a : Anchors} {n : ℕ} → tail ≡ tail_in v b → t ≡ tank_in v (drop 3 b)
    → x ≡ site_in tail → a ≡ anchors_in (drop 20 tail) → n ≡ count_of v (two_in b)
    → (StateTank t ∷ StateSite x ∷ StateAnchors a ∷ from_courses n tail) ≡ steps_in v b
unfolding steps_in
steps_read v b p q r s k = rw (q, r, s, k, p)

-- so what these come to, the bytes do
pub read_as : (v : Version) (b : List ℕ) {tail : List ℕ} {t : Tank} {x : Site} {a : Anchors} {n : ℕ} {y : Reply} → tail ≡ tail_in v b → t ≡ tank_in v (drop 3 b)
    → x ≡ site_in tail → a ≡ anchors_in (drop 20 tail) → n ≡ count_of v (two_in b)
    → in_turn v empty_sheet (StateTank t ∷ StateSite x ∷ StateAnchors a ∷ from_courses n tail) ≡ y
    → with_height y ≡ with_height (in_turn v empty_sheet (steps_in v b))
read_as v b p q r s k e = ap with_height (sym e ∙ ap (in_turn v empty_sheet) (steps_read v b p q r s k))

-- tank, site and anchors in turn, and then other steps
module _ (v : Version) (t : Tank) (x : Site) (a : Anchors) (xs : List Step) where
  abbrev all : List Step
  all = StateTank t ∷ StateSite x ∷ StateAnchors a ∷ xs

  abbrev s₁ : Sheet
  s₁ = filled empty_sheet (StateTank t)

  abbrev s₂ : Sheet
  s₂ = filled s₁ (StateSite x)

  pub tank_refused : {r : Refusal} → first_of (tank_flaws t) ≡ Err r → in_turn v empty_sheet all ≡ refused r empty_sheet
  tank_refused = turn_refused v empty_sheet (StateTank t) (StateSite x ∷ StateAnchors a ∷ xs) (tank_applied v empty_sheet refl t)

  module _ (h : first_of (tank_flaws t) ≡ Ok tt) where
    tank_done : in_turn v empty_sheet all ≡ in_turn v s₁ (StateSite x ∷ StateAnchors a ∷ xs)
    tank_done = turn_accepted v empty_sheet (StateTank t) (StateSite x ∷ StateAnchors a ∷ xs) (tank_applied v empty_sheet refl t) h

    pub site_refused : {r : Refusal} → first_of (site_flaws x) ≡ Err r → in_turn v empty_sheet all ≡ refused r empty_sheet
    site_refused k = tank_done ∙ turn_refused v s₁ (StateSite x) (StateAnchors a ∷ xs) (site_applied v s₁ t refl x) k

    module _ (k : first_of (site_flaws x) ≡ Ok tt) where
      site_done : in_turn v empty_sheet all ≡ in_turn v s₂ (StateAnchors a ∷ xs)
      site_done = tank_done ∙ turn_accepted v s₁ (StateSite x) (StateAnchors a ∷ xs) (site_applied v s₁ t refl x) k

      pub anchors_refused : {r : Refusal} → first_of (anchor_flaws t.diameter a ++ size_flaws v a) ≡ Err r
          → in_turn v empty_sheet all ≡ refused r empty_sheet
      anchors_refused l = site_done ∙ turn_refused v s₂ (StateAnchors a) xs (anchors_applied v s₂ t refl a) l

      pub entries_accepted : first_of (anchor_flaws t.diameter a ++ size_flaws v a) ≡ Ok tt → in_turn v empty_sheet all ≡ in_turn v (before_courses t x a) xs
      entries_accepted l = site_done ∙ turn_accepted v s₂ (StateAnchors a) xs (anchors_applied v s₂ t refl a) l

-- and then courses, which go by no version
pub courses_follow : (v : Version) (t : Tank) (x : Site) (a : Anchors) (cs : List Course) → first_of (tank_flaws t) ≡ Ok tt → first_of (site_flaws x) ≡ Ok tt
    → first_of (anchor_flaws t.diameter a ++ size_flaws v a) ≡ Ok tt
    → in_turn v empty_sheet (StateTank t ∷ StateSite x ∷ StateAnchors a ∷ map AddCourse cs) ≡ in_turn Two (before_courses t x a) (map AddCourse cs)
courses_follow v t x a cs h k l =
    entries_accepted v t x a (map AddCourse cs) h k l ∙ courses_in_turn v cs (before_courses t x a)

-- the courses of a tail, from the one at place i on
abbrev pub from : List ℕ → ℕ → ℕ → List Step
from tail n i = map AddCourse (courses_in (n - i) (drop (33 + 20 * i) tail))

-- and added to a sheet that has those before it in its slots
module _ (t : Tank) (x : Site) (a : Anchors) where
  abbrev pub with : List Course → ℕ → Sheet
  with cs i =
      record {
        tank = Some t;
        site = Some x;
        anchors = Some a;
        courses = cs;
        count = i;
      }

  module _ (tail : List ℕ) (n i : ℕ) (cs : List Course) {c : Course} {h : ℕ} {flaw : Answer} (l : i < n) (m : n ≤ 12)
      (k : c ≡ course_in (drop (33 + 20 * i) tail)) (v : h ≡ height_of (take i cs)) (f : flaw ≡ first_of (course_flaws c ++ too_high h c ∷ [])) where
    next : from tail n i ≡ AddCourse c ∷ from tail n (i + 1)
    next =
        ap (map AddCourse) (courses_next tail n i l)
        ∙ ap (λ (c : Course). AddCourse c ∷ from tail n (i + 1)) (sym k)

    given : applied Two (with cs i) (AddCourse c) ≡ replied flaw (with cs i) (with (set cs i c) (i + 1))
    given =
        course_applied Two (with cs i) t refl c (omega arith)
        ∙ ap (λ (y : Answer). replied y (with cs i) (with (set cs i c) (i + 1))) (sym (f ∙ ap (λ (h : ℕ). first_of (course_flaws c ++ too_high h c ∷ [])) v))

    pub course_refused : {r : Refusal} → flaw ≡ Err r → in_turn Two (with cs i) (from tail n i) ≡ refused r empty_sheet
    course_refused e = ap (in_turn Two (with cs i)) next ∙ turn_refused Two (with cs i) (AddCourse c) (from tail n (i + 1)) given e

    pub course_accepted : flaw ≡ Ok tt → in_turn Two (with cs i) (from tail n i) ≡ in_turn Two (with (set cs i c) (i + 1)) (from tail n (i + 1))
    course_accepted e = ap (in_turn Two (with cs i)) next ∙ turn_accepted Two (with cs i) (AddCourse c) (from tail n (i + 1)) given e
