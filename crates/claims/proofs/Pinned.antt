-- Demand 3 guarded on its weak side: exact figures and margins at literal numbers, and sheets at the edge of each exact rule, computed by the
-- checker. For the second there is a test of the rules, which passes exactly where they are met.
-- Assumes nothing.
use mathlib.Core.Path.{◌≡◌, refl}
use mathlib.Core.Bool.{Bool, true, false, not, cond, ◌&&◌, ◌||◌}
use mathlib.Core.List.{List, [], ◌∷◌, map}
use mathlib.Core.Logic.{◌⊎◌, inl, inr}
use Prim.Native.Nat.{ℕ, ◌+◌, ◌-◌, ◌*◌, ◌≤◌}
use native.Mathlib.Omega.{arith}
use lib.Dec.{T, leb, eqb}
use mir.Facts.{and_yes, yes_and, or_yes, leb_yes, yes_leb}
use borrow.Author.Tests.{eq-eqb, ne_eqb, eqb-true, eqb-false}
use Rattle.std.specs.List.{list_all}
use Rattle.lists.proofs.BoolLaws.{three_yes, yes_three}
use Rattle.exact.specs.Quotient.{Ratio, whole, plus}
use Rattle.fields.specs.Bolt.{stress_area}
use Rattle.rules.specs.Hoop.{head_of, design_head, hoop_exact, plate_margin, plate_floor}
use Rattle.rules.specs.Wind.{pressure_exact, moment_exact, moment_margin}
use Rattle.rules.specs.declared.method.Method.{Method}
use Rattle.rules.specs.declared.method.Method.TheVariants.{D100, Api650}
use Rattle.stability.specs.Anchors.{reduced_weight, pull_margin}
use Rattle.stability.specs.Earthquake.{Carried, shell_exact, cap_exact, root_yield, root_most, Resists, resistance_margin}
use Rattle.entries.specs.Sheet.{height_of}
use Rattle.entries.specs.declared.sheet.Tank.{Tank}
use Rattle.entries.specs.declared.sheet.Site.{Site}
use Rattle.entries.specs.declared.sheet.Anchors.{Anchors}
use Rattle.entries.specs.declared.sheet.Course.{Course}
use Rattle.sheet.specs.Complete.{entries_of, courses_of}
use Rattle.entries.specs.declared.complete.Entries.{Entries}
use Rattle.claims.specs.Figures.{need_exact_on, bottom_plate, yield_on, ResistsOn, wind_weight, quake_weight}
use Rattle.claims.specs.Meets.{Margins, no_margins, plate_with, CourseMeets, CoursesMeet, moment_with, SelfMeets, AnchorsMeet, MeetsWith, margins_of}
use Rattle.claims.specs.Cases.{mil_below}
use Rattle.claims.specs.Pinned.{◌over◌, pinned_on, sheets, expected_figures, Edge, edges, EachEdge, with_plate, HalfTooLittle}

pub pinned : map pinned_on sheets ≡ expected_figures
unfolding shell_exact cap_exact root_yield root_most resistance_margin head_of design_head hoop_exact plate_margin pressure_exact moment_exact moment_margin reduced_weight pull_margin
pinned = refl

-- ---- a test of the exact rules: met where it passes, and it passes where they are met

or_left : (a b : Bool) → T a → T (a || b)
or_left true b t = tt
or_left false b t = absurd t

or_right : (a b : Bool) → T b → T (a || b)
or_right true b t = tt
or_right false b t = t

-- the two conditions on x, and the strength rule
module _ (a h y most : ℕ) (cap : Ratio) where
  abbrev by_cap : Bool
  by_cap = leb (a * cap.den) (h * cap.den + cap.num * y)

  abbrev by_root : Bool
  by_root = leb (12000000 * ((a - h) * (a - h))) (most * (y * y))

  abbrev carried_test : Bool
  carried_test = by_cap && (leb a h || by_root)

  carried_met : T carried_test → Carried a h y most cap
  carried_met t = record { by_cap = leb_yes (and_yes by_cap (leb a h || by_root) t).0; by_root = go (or_yes (leb a h) by_root (and_yes by_cap (leb a h || by_root) t).1) }
    where
      go : T (leb a h) ⊎ T by_root → (a ≤ h) ⊎ (12000000 * ((a - h) * (a - h)) ≤ most * (y * y))
      go (inl t) = inl (leb_yes t)
      go (inr t) = inr (leb_yes t)

  carried_test_lem : Carried a h y most cap → T carried_test
  carried_test_lem c = yes_and by_cap (leb a h || by_root) (yes_leb c.by_cap) (go c.by_root)
    where
      go : (a ≤ h) ⊎ (12000000 * ((a - h) * (a - h)) ≤ most * (y * y)) → T (leb a h || by_root)
      go (inl l) = or_left (leb a h) by_root (yes_leb l)
      go (inr l) = or_right (leb a h) by_root (yes_leb l)

module _ (m : Margins) (t : Tank) where
  abbrev course_test : Ratio → Course → Bool
  course_test need c = leb (plate_floor t.diameter) c.plate && leb (plate_with m need c).num (c.plate * (plate_with m need c).den)

  course_met : (need : Ratio) (c : Course) → T (course_test need c) → CourseMeets m t need c
  course_met need c k =
      let b = and_yes (leb (plate_floor t.diameter) c.plate) (leb (plate_with m need c).num (c.plate * (plate_with m need c).den)) k in
      record { floor = leb_yes b.0; hoop = leb_yes b.1 }

  course_test_lem : (need : Ratio) (c : Course) → CourseMeets m t need c → T (course_test need c)
  course_test_lem need c k =
      yes_and (leb (plate_floor t.diameter) c.plate) (leb (plate_with m need c).num (c.plate * (plate_with m need c).den)) (yes_leb k.floor) (yes_leb k.hoop)

  module _ (method : Method) where
    abbrev courses_test : ℕ → List Course → Bool
    courses_test y [] = true
    courses_test y (c ∷ cs) = course_test (need_exact_on method t y c) c && courses_test (y + c.width) cs

    courses_met : (y : ℕ) (cs : List Course) → T (courses_test y cs) → CoursesMeet m t method y cs
    courses_met y [] k = tt
    courses_met y (c ∷ cs) k =
        let a = and_yes (course_test (need_exact_on method t y c) c) (courses_test (y + c.width) cs) k in
        (course_met (need_exact_on method t y c) c a.0, courses_met (y + c.width) cs a.1)

    courses_test_lem : (y : ℕ) (cs : List Course) → CoursesMeet m t method y cs → T (courses_test y cs)
    courses_test_lem y [] k = tt
    courses_test_lem y (c ∷ cs) k =
        yes_and (course_test (need_exact_on method t y c) c) (courses_test (y + c.width) cs)
        (course_test_lem (need_exact_on method t y c) c k.0)
        (courses_test_lem (y + c.width) cs k.1)

module _ (m : Margins) (t : Tank) (x : Site) (Hs : ℕ) where
  abbrev M : Ratio
  M = moment_with m t x Hs

  abbrev wind_test : Bool
  wind_test = leb (3600 * M.num) (t.weight * t.diameter * M.den)

  abbrev asked : Ratio
  asked = plus (record { num = 1000 * x.moment; den = 1540 }) m.resistance

  abbrev wt : Ratio
  wt = shell_exact t.weight x.vertical t.diameter

  abbrev quake_test : Bool
  quake_test =
      carried_test (144000000 * asked.num * wt.den) (wt.num * (asked.den * (t.diameter * t.diameter))) (asked.den * (t.diameter * t.diameter) * wt.den) (root_most (bottom_plate t) (yield_on t) t.level) (cap_exact t.level t.diameter t.gravity)

  self_met : T (wind_test && quake_test) → SelfMeets m t x Hs
  unfolding ResistsOn Resists
  self_met k = let a = and_yes wind_test quake_test k in record { wind = leb_yes a.0; quake = carried_met _ _ _ _ _ a.1 }

  self_test_lem : SelfMeets m t x Hs → T (wind_test && quake_test)
  unfolding ResistsOn Resists
  self_test_lem k = yes_and wind_test quake_test (yes_leb k.wind) (carried_test_lem _ _ _ _ _ k.quake)

  module _ (a : Anchors) where
    abbrev strong_test : Ratio → Ratio → Bool
    strong_test w f =
        let s = a.number * a.circle in
        leb (1000 * (4800 * f.num * m.pull.den + m.pull.num * s * f.den) * w.den)
        ((19950 * stress_area a.size * s * w.den + 1000 * (w.num * a.circle)) * (f.den * m.pull.den))

    abbrev wind_pull_test : Bool
    wind_pull_test = strong_test (wind_weight t) M

    abbrev quake_pull_test : Bool
    quake_pull_test = strong_test (quake_weight t x) (whole x.moment)

    abbrev spacing_test : Bool
    spacing_test = leb (355 * a.circle) (1356000 * a.number)

    anchors_met : T (spacing_test && wind_pull_test && quake_pull_test) → AnchorsMeet m t x Hs a
    anchors_met k =
        let b = three_yes spacing_test wind_pull_test quake_pull_test k in
        record { spacing = leb_yes b.0; wind = record { strong = leb_yes b.1 }; quake = record { strong = leb_yes b.2 } }

    anchors_test_lem : AnchorsMeet m t x Hs a → T (spacing_test && wind_pull_test && quake_pull_test)
    anchors_test_lem k =
        yes_three spacing_test wind_pull_test quake_pull_test (yes_leb k.spacing) (yes_leb k.wind.strong) (yes_leb k.quake.strong)

module _ (method : Method) (m : Margins) (e : Entries) where
  abbrev Hs : ℕ
  Hs = height_of (courses_of e)

  abbrev self_test : Bool
  self_test = wind_test m e.tank e.site Hs && quake_test m e.tank e.site Hs

  abbrev anchors_test : Bool
  anchors_test =
      spacing_test m e.tank e.site Hs e.anchors
      && wind_pull_test m e.tank e.site Hs e.anchors
      && quake_pull_test m e.tank e.site Hs e.anchors

  abbrev standing_test : Bool → Bool
  standing_test none = cond none self_test anchors_test

  abbrev meets_test : Bool
  meets_test = courses_test m e.tank method 0 (courses_of e) && standing_test (eqb e.anchors.number 0)

  test_meets : T meets_test → MeetsWith method m e
  test_meets k =
      let a = and_yes (courses_test m e.tank method 0 (courses_of e)) (standing_test (eqb e.anchors.number 0)) k in
      record {
        each_course = courses_met m e.tank method 0 (courses_of e) a.0;
        self_anchored = λ z. self_met m e.tank e.site Hs (rw (eq-eqb _ _ z) at a.1);
        anchored = λ p. anchors_met m e.tank e.site Hs e.anchors (rw (ne_eqb e.anchors.number 0 (λ z. omega (arith, z, p))) at a.1);
      }

  meets_test_lem : MeetsWith method m e → T meets_test
  meets_test_lem k =
      yes_and (courses_test m e.tank method 0 (courses_of e)) (standing_test (eqb e.anchors.number 0))
      (courses_test_lem m e.tank method 0 (courses_of e) k.each_course)
      (go (eqb e.anchors.number 0) refl)
    where
      go : (b : Bool) → eqb e.anchors.number 0 ≡ b → T (standing_test b)
      go true z = self_test_lem m e.tank e.site Hs (k.self_anchored (eqb-true e.anchors.number 0 z))
      go false z =
          anchors_test_lem m e.tank e.site Hs e.anchors
          (k.anchored (let n = eqb-false e.anchors.number 0 z in omega (arith, n)))

-- ---- THE EDGES: the first sheet of each meets every rule with the margins, the second breaks one without

not_both : (b : Bool) → T (not b) → T b → ⊥
not_both true n t = n
not_both false n t = t

module _ (method : Method) where
  abbrev edge_test : Edge → Bool
  edge_test d =
      meets_test method (margins_of (entries_of d.meets)) (entries_of d.meets) && not (meets_test method no_margins (entries_of d.breaks))

  each_edge : (ds : List Edge) → T (list_all edge_test ds) → EachEdge method ds
  each_edge [] k = tt
  each_edge (d ∷ ds) k =
      let a = and_yes (edge_test d) (list_all edge_test ds) k in
      let inside = meets_test method (margins_of (entries_of d.meets)) (entries_of d.meets) in
      let outside = meets_test method no_margins (entries_of d.breaks) in
      let b = and_yes inside (not outside) a.0 in
      ((test_meets method (margins_of (entries_of d.meets)) (entries_of d.meets) b.0, λ m. not_both outside b.1 (meets_test_lem method no_margins (entries_of d.breaks) m)), each_edge ds a.1)

pub edges_hold : (method : Method) → EachEdge method (edges method)
unfolding shell_exact cap_exact root_yield root_most resistance_margin head_of design_head hoop_exact plate_margin plate_floor pressure_exact moment_exact moment_margin stress_area reduced_weight pull_margin
edges_hold D100 = each_edge D100 (edges D100) tt
edges_hold Api650 = each_edge Api650 (edges Api650) tt

-- ---- the plate's margin is not to be halved

pub half_too_little : HalfTooLittle D100 mil_below
unfolding shell_exact cap_exact root_yield root_most resistance_margin head_of design_head hoop_exact plate_margin plate_floor pressure_exact moment_exact moment_margin stress_area reduced_weight pull_margin
half_too_little =
    let e = entries_of mil_below in
    record { breaks = meets_test_lem D100 (margins_of e) e; meets = test_meets D100 (with_plate (5 over 2) (margins_of e)) e tt }
