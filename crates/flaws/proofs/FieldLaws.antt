-- What a step without a flaw says of its figures: each is between the ends of its field's range. Tank and course: the allowance is below
-- the plate. Anchors: none, or a number of them in range, on a bolt circle at least as wide as the tank, of a size that is in
-- the chart. And that what stands where nothing was stated has a flaw.
-- Assumes nothing.
use Rattle.std.specs.Prelude.{None, Ok}
use mathlib.Core.Path.{◌≡◌, refl, sym, ap, ◌∙◌, subst}
use mathlib.Core.Bool.{Bool, true, false, not, ◌&&◌}
use mathlib.Core.List.{List, [], ◌∷◌, ◌++◌, map}
use Prim.Native.Nat.{ℕ, zero, suc, ◌≤◌, ◌<◌}
use native.Mathlib.Nat.{le_of_suc-le-suc, not-suc-le-zero}
use native.Mathlib.Omega.{arith}
use lib.Dec.{T, ltb, eqb}
use lib.ListN.{length, get_or}
use mir.Facts.{and_yes}
use borrow.Author.Tests.{not-false, leb-false, ltb-false, ne_eqb, eq-eqb}
use Rattle.fields.specs.Bolt.{in_chart}
use Rattle.fields.specs.Range.{range, between, within, In}
use Rattle.fields.specs.declared.refusal.Refusal.TheVariants.{OutOfRange, BadAnchors}
use Rattle.fields.proofs.RangeLaws.{in_of_within, in_of_between, within_some}
use Rattle.fields.specs.Order.{Condition, ◌when◌, first_of, clear, Figure, ◌is◌, outside}
use Rattle.fields.proofs.OrderLaws.{first_cons, first_append, clear_accepted}
use Rattle.lists.proofs.BoolLaws.{both_fail}
use Rattle.entries.specs.Sheet.{tank_fields, site_fields, anchor_fields, course_fields, course_with}
use Rattle.flaws.specs.Flaws.{allowance_too_large, bad_anchors, too_high, tank_flaws, site_flaws, anchor_flaws, course_flaws, tank_of, site_of, anchors_of}
use Rattle.entries.specs.declared.sheet.Tank.{Tank}
use Rattle.entries.specs.declared.sheet.Site.{Site}
use Rattle.entries.specs.declared.sheet.Anchors.{Anchors}
use Rattle.entries.specs.declared.sheet.Course.{Course}

-- figures that pass the test of their fields
abbrev pub Pass : List Figure → Type 0
Pass [] = Unit {0}
Pass (f ∷ fs) = (within (range f.field) f.value ≡ true) × Pass fs

pub all_pass : (fs : List Figure) → first_of (outside fs) ≡ Ok tt → Pass fs
all_pass [] e = tt
all_pass (f ∷ fs) e =
    let o = first_cons (OutOfRange f.field when not (within (range f.field) f.value)) (outside fs) e in
    (not-false (within (range f.field) f.value) o.0, all_pass fs o.1)

-- with the one condition after them
pub both_pass : (fs : List Figure) (c : Condition) → T (clear (outside fs ++ c ∷ [])) → Pass fs × (c.applies ≡ false)
both_pass fs c t =
    let o = first_append (outside fs) (c ∷ []) (clear_accepted (outside fs ++ c ∷ []) t) in
    (all_pass fs o.0, (first_cons c [] o.1).0)

-- So each is between the ends of its field's range, where none of the fields is N, which may be 0 too.
abbrev without_n : List Figure → Bool
without_n [] = true
without_n (f ∷ fs) = not (eqb f.field 12) && without_n fs

abbrev figure_at : List Figure → ℕ → Figure
figure_at fs i = get_or fs i (0 is 0)

figure_in : (fs : List Figure) → T (without_n fs) → Pass fs → (i : ℕ) → i < length fs → In (figure_at fs i).field (figure_at fs i).value
figure_in [] w p i l = absurd (not-suc-le-zero l)
figure_in (f ∷ fs) w p zero l =
    in_of_within f.field f.value (λ e. subst T (ap not (eq-eqb f.field 12 e)) (and_yes (not (eqb f.field 12)) (without_n fs) w).0) p.0
figure_in (f ∷ fs) w p (suc i) l = figure_in fs (and_yes (not (eqb f.field 12)) (without_n fs) w).1 p.1 i (le_of_suc-le-suc l)

pub record TankIn (t : Tank) : Type 0 where
  pub diameter : In 1 t.diameter
  pub level : In 2 t.level
  pub weight : In 3 t.weight
  pub plate : In 4 t.plate
  pub allowance : In 5 t.allowance
  pub fy : In 6 t.fy
  pub gravity : In 20 t.gravity
  pub net : t.allowance < t.plate

pub tank_in_lem : (t : Tank) → T (clear (tank_flaws t)) → TankIn t
unfolding tank_flaws
tank_in_lem t h =
    let b = both_pass (tank_fields t) (allowance_too_large t.plate t.allowance) h in
    let p = figure_in (tank_fields t) tt b.0 in
    record {
      diameter = p 0 (omega arith);
      level = p 1 (omega arith);
      weight = p 2 (omega arith);
      plate = p 3 (omega arith);
      allowance = p 4 (omega arith);
      fy = p 5 (omega arith);
      gravity = p 6 (omega arith);
      net = leb-false t.plate t.allowance b.1;
    }

pub record SiteIn (x : Site) : Type 0 where
  pub speed : In 7 x.speed
  pub exposure : In 8 x.exposure
  pub importance : In 9 x.importance
  pub vertical : In 10 x.vertical
  pub moment : In 11 x.moment

pub site_in_lem : (x : Site) → T (clear (site_flaws x)) → SiteIn x
unfolding site_flaws
site_in_lem x h =
    let p = figure_in (site_fields x) tt (all_pass (site_fields x) (clear_accepted (outside (site_fields x)) h)) in
    record {
      speed = p 0 (omega arith);
      exposure = p 1 (omega arith);
      importance = p 2 (omega arith);
      vertical = p 3 (omega arith);
      moment = p 4 (omega arith);
    }

pub record CourseIn (c : Course) : Type 0 where
  pub width : In 15 c.width
  pub plate : In 16 c.plate
  pub allowance : In 17 c.allowance
  pub stress : In 18 c.stress
  pub efficiency : In 19 c.efficiency
  pub net : c.allowance < c.plate

pub course_in_lem : (c : Course) → T (clear (course_flaws c)) → CourseIn c
unfolding course_flaws
course_in_lem c h =
    let b = both_pass (course_fields c) (allowance_too_large c.plate c.allowance) h in
    let p = figure_in (course_fields c) tt b.0 in
    record {
      width = p 0 (omega arith);
      plate = p 1 (omega arith);
      allowance = p 2 (omega arith);
      stress = p 3 (omega arith);
      efficiency = p 4 (omega arith);
      net = leb-false c.plate c.allowance b.1;
    }

-- the anchors of a tank of diameter D that has some
pub record AnchorsIn (D : ℕ) (a : Anchors) : Type 0 where
  pub number : In 12 a.number
  pub circle : In 13 a.circle
  pub around : D ≤ a.circle
  pub size : T (in_chart a.size)

pub anchors_in_lem : (D : ℕ) (a : Anchors) → T (clear (anchor_flaws D a)) → (a.number ≡ 0 → ⊥) → AnchorsIn D a
unfolding anchor_flaws bad_anchors
anchors_in_lem D a h z =
    let b = both_pass (anchor_fields a) (BadAnchors when bad_anchors D a) h in
    let p = b.0 in
    let q = both_fail (ltb a.circle D) (not (in_chart a.size)) (rw (ne_eqb a.number 0 z) at b.1) in
    record {
      number = in_of_between 12 a.number (subst T (sym (within_some 12 a.number z ∙ p.0)) tt);
      circle = in_of_within 13 a.circle (λ e. omega (arith, e)) p.1.0;
      around = ltb-false a.circle D q.0;
      size = subst T (sym (not-false (in_chart a.size) q.1)) tt;
    }

-- 34 on a course of 14,400 that just fits, and on one that is a hundredth of an inch too high: no other law holds the 76,800
pub just_high : map (λ (h : ℕ). (too_high h (course_with (14400 ∷ 100 ∷ 0 ∷ 10000 ∷ 50 ∷ []))).applies) (62400 ∷ 62401 ∷ []) ≡ false ∷ true ∷ []
just_high = refl

-- WHAT STANDS WHERE NOTHING WAS STATED HAS A FLAW
pub blank_flawed : (T (clear (tank_flaws (tank_of None))) → ⊥)
    × (T (clear (site_flaws (site_of None))) → ⊥)
    × ((D : ℕ) → T (clear (anchor_flaws D (anchors_of None))) → ⊥)
unfolding within between clear tank_flaws site_flaws anchor_flaws
blank_flawed = (λ h. h, λ h. h, λ D h. h)
