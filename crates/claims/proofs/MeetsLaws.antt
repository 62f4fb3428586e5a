-- Demand 3, from the two laws of each figure: a rule that holds as rounded holds exactly, and one that falls short as rounded fails once
-- the exact figures are shifted by their margins. Nothing here unfolds a figure or its rounding; of the margins that
-- of plate alone, so that half of it is refused here, and a larger one, which only weakens the claim, by Pinned.
-- Assumes nothing.
use mathlib.Core.Path.{◌≡◌, refl, sym, ap, ◌∙◌, subst}
use mathlib.Core.Bool.{Bool, true, false, cond, ◌&&◌}
use mathlib.Core.List.{List, [], ◌∷◌}
use mathlib.Core.Logic.{◌⊎◌, inl, inr}
use Prim.Native.Nat.{ℕ, ◌+◌, ◌*◌, max, ◌≤◌, ◌<◌}
use native.Mathlib.Nat.{eq-zero-or-pos, lt_of_not-le, mul-le-mul_right, not-le_of_lt}
use native.Mathlib.Decide.{dec_le}
use native.Mathlib.Omega.{arith}
use lib.Dec.{T, leb}
use lib.IntN.{ℤ}
use lib.ListN.{get_or}
use mir.Facts.{and_yes}
use borrow.Author.Tests.{leb-true, leb-false, eq-eqb, ne_eqb}
use Rattle.lists.specs.Ascii.{ascii}
use Rattle.lists.proofs.BoolLaws.{one_fails, both_hold}
use Rattle.exact.specs.Quotient.{Ratio, whole, plus, AtLeast, positive_part}
use Rattle.fields.specs.Bolt.{stress_area}
use Rattle.stability.specs.Anchors.{larger_pull}
use Rattle.rules.specs.Hoop.{plate_margin, required_plate}
use Rattle.rules.specs.Verdict.{holds}
use Rattle.rules.specs.Wind.{moment_margin}
use Rattle.rules.specs.declared.method.Method.{Method}
use Rattle.stability.proofs.AnchorLaws.{larger_is}
use Rattle.rules.proofs.HoopLaws.{required_meets, required_least}
use Rattle.rules.proofs.VerdictLaws.{holds_for}
use Rattle.stability.proofs.CheckLaws.{self_wind_holds, quake_holds, spacing_holds, strength_holds}
use Rattle.fields.specs.Order.{clear}
use Rattle.entries.specs.Sheet.{height_of}
use Rattle.flaws.specs.Flaws.{tank_flaws, anchor_flaws, course_flaws}
use Rattle.parts.specs.Parts.{courses_clear}
use Rattle.sheet.specs.Complete.{courses_of, Valid}
use Rattle.entries.specs.declared.complete.Entries.{Entries}
use Rattle.entries.specs.declared.sheet.Tank.{Tank}
use Rattle.entries.specs.declared.sheet.Site.{Site}
use Rattle.entries.specs.declared.sheet.Anchors.{Anchors}
use Rattle.entries.specs.declared.sheet.Course.{Course}
use Rattle.claims.specs.Figures.{need_on, need_exact_on, moment_on, moment_exact_on, resistance_on, wind_weight, quake_weight, pull_on}
use Rattle.reports.specs.Words.{tank_word}
use Rattle.claims.specs.Report.{line_of, lines_of, self_checks, anchor_checks, standing_of, stands, courses_hold, word_of, report_of}
use Rattle.claims.specs.Meets.{Margins, no_margins, margins_for, CourseMeets, CoursesMeet, SelfMeets, AnchorsMeet, MeetsWith, margins_of}
use Rattle.reports.specs.declared.report.SelfChecks.{SelfChecks}
use Rattle.reports.specs.declared.report.AnchorChecks.{AnchorChecks}
use Rattle.reports.specs.declared.report.Standing.{Standing}
use Rattle.reports.specs.declared.report.Standing.TheVariants.{SelfAnchored, Anchored}
use Rattle.reports.specs.declared.report.Word.TheVariants.{Sound, Short}
use Rattle.claims.proofs.LineLaws.{line_for}
use Rattle.claims.proofs.FigureLaws.{need_rounded, moment_rounded_on, moment_with_den, resists_safe, resists_near, wind_weight_in, quake_weight_in, strong_safe, strong_near}

-- ---- a course

-- over plain numbers: f is the exact need, m its margin, and need + c is to be at most t
plate_near : (f m : Ratio) (need c t : ℕ) → need * (plus f m).den < (plus f m).num
    → (plus (plus f m) (whole c)).num ≤ t * (plus (plus f m) (whole c)).den → need + c ≤ t
plate_near f m need c t h k = go (dec_le (need + c) t)
  where
    go : Dec (need + c ≤ t) → need + c ≤ t
    go (yes l) = l
    go (no l) = absurd (omega (arith, h, k, mul-le-mul_right (plus f m).den (lt_of_not-le l)))

module _ (method : Method) (t : Tank) (y : ℕ) (c : Course) (k : T (clear (course_flaws c))) where
  line_holds : holds (line_of method t y c).verdict ≡ leb (required_plate (need_on method t y c) c.allowance t.diameter) c.plate
  line_holds =
      let l = line_for method t y c in
      holds_for l.verdict_is
      ∙ ap (λ (r : ℕ). leb r (line_of method t y c).plate) l.required_is
      ∙ ap (λ (p : ℕ). leb (required_plate (need_on method t y c) c.allowance t.diameter) p) l.plate_is

  course_sound : holds (line_of method t y c).verdict ≡ true → CourseMeets no_margins t (need_exact_on method t y c) c
  course_sound e =
      let m = required_meets (need_on method t y c) c.allowance t.diameter c.plate (leb-true _ _ (sym line_holds ∙ e)) in
      record { floor = m.1; hoop = omega (arith, (need_rounded method t y c k).safe, mul-le-mul_right (need_exact_on method t y c).den m.0) }

  course_short : (Hs : ℕ) → holds (line_of method t y c).verdict ≡ false → CourseMeets (margins_for t.diameter Hs) t (need_exact_on method t y c) c → ⊥
  unfolding plate_margin
  course_short Hs e m =
      not-le_of_lt (leb-false _ _ (sym line_holds ∙ e))
      (required_least (need_on method t y c) c.allowance t.diameter c.plate
      (plate_near (need_exact_on method t y c) plate_margin (need_on method t y c) c.allowance c.plate (need_rounded method t y c k).near (omega (arith, m.hoop)))
      m.floor)

module _ (method : Method) (t : Tank) where
  courses_sound : (y : ℕ) (cs : List Course) → T (courses_clear cs) → courses_hold (lines_of method t y cs) ≡ true → CoursesMeet no_margins t method y cs
  unfolding courses_clear courses_hold
  courses_sound y [] k e = tt
  courses_sound y (c ∷ cs) k e =
      let a = and_yes (clear (course_flaws c)) (courses_clear cs) k in
      let b = both_hold (holds (line_of method t y c).verdict) (courses_hold (lines_of method t (y + c.width) cs)) e in
      (course_sound method t y c a.0 b.0, courses_sound (y + c.width) cs a.1 b.1)

  courses_short : (Hs y : ℕ) (cs : List Course) → T (courses_clear cs) → courses_hold (lines_of method t y cs) ≡ false
      → CoursesMeet (margins_for t.diameter Hs) t method y cs → ⊥
  unfolding courses_clear courses_hold
  courses_short Hs y [] k e m = subst T e tt
  courses_short Hs y (c ∷ cs) k e m =
      go (and_yes (clear (course_flaws c)) (courses_clear cs) k) (courses_short Hs (y + c.width) cs)
      (one_fails (holds (line_of method t y c).verdict) (courses_hold (lines_of method t (y + c.width) cs)) e)
    where
      go : T (clear (course_flaws c)) × T (courses_clear cs)
          → (T (courses_clear cs) → courses_hold (lines_of method t (y + c.width) cs) ≡ false → CoursesMeet (margins_for t.diameter Hs) t method (y + c.width) cs → ⊥)
          → (holds (line_of method t y c).verdict ≡ false) ⊎ (courses_hold (lines_of method t (y + c.width) cs) ≡ false) → ⊥
      go a rest (inl f) = course_short method t y c a.0 Hs f m.0
      go a rest (inr f) = rest a.1 f m.1

-- ---- the two ways of standing

module _ (t : Tank) (k : T (clear (tank_flaws t))) (x : Site) (Hs : ℕ) where
  -- M, rounded and exact
  abbrev M : ℕ
  M = moment_on t x Hs

  abbrev exact : Ratio
  exact = moment_exact_on t x Hs

  abbrev rounded : AtLeast exact (moment_margin t.diameter Hs) M
  rounded = moment_rounded_on t x Hs

  -- what an earthquake asks of the resistance, 1,000 × Ms / 1,540
  abbrev asked : Ratio
  asked = record { num = 1000 * x.moment; den = 1540 }

  abbrev self : SelfChecks
  self = self_checks t x M

  wind_is : holds self.wind ≡ leb (3600 * M) (t.weight * t.diameter)
  unfolding self_checks
  wind_is = self_wind_holds M t.weight t.diameter

  quake_is : holds self.quake ≡ leb (1000 * x.moment) (1540 * resistance_on t x)
  unfolding self_checks
  quake_is = quake_holds x.moment (resistance_on t x)

  self_sound : stands (SelfAnchored self) ≡ true → SelfMeets no_margins t x Hs
  self_sound e =
      let b = both_hold (holds self.wind) (holds self.quake) e in
      let w : 3600 * M ≤ t.weight * t.diameter = leb-true _ _ (sym wind_is ∙ b.0) in
      let q : 1000 * x.moment ≤ 1540 * resistance_on t x = leb-true _ _ (sym quake_is ∙ b.1) in
      record {
        wind = omega (arith, rounded.safe, mul-le-mul_right exact.den w);
        quake = resists_safe t k x (plus asked (whole 0)) (omega arith);
      }

  self_short : stands (SelfAnchored self) ≡ false → SelfMeets (margins_for t.diameter Hs) t x Hs → ⊥
  self_short e m = go (one_fails (holds self.wind) (holds self.quake) e)
    where
      go : (holds self.wind ≡ false) ⊎ (holds self.quake ≡ false) → ⊥
      go (inl f) =
          let w : t.weight * t.diameter < 3600 * M = leb-false _ _ (sym wind_is ∙ f) in
          omega (arith, rounded.near, mul-le-mul_right (plus exact (moment_margin t.diameter Hs)).den w, m.wind)
      go (inr f) =
          let q : 1540 * resistance_on t x < 1000 * x.moment = leb-false _ _ (sym quake_is ∙ f) in
          omega (arith, resists_near t k x asked (omega arith) m.quake)

  module _ (a : Anchors) (n : T (clear (anchor_flaws t.diameter a))) (p : 0 < a.number) where
    abbrev A : ℕ
    A = stress_area a.size

    -- each pull, and what an anchor carries of it
    abbrev wind_pull : ℤ
    wind_pull = pull_on a (wind_weight t) M

    abbrev quake_pull : ℤ
    quake_pull = pull_on a (quake_weight t x) x.moment

    abbrev by_wind : ℕ
    by_wind = positive_part wind_pull

    abbrev by_quake : ℕ
    by_quake = positive_part quake_pull

    abbrev checks : AnchorChecks
    checks = anchor_checks t x a M

    spacing_is : holds checks.spacing ≡ leb (355 * a.circle) (1356000 * a.number)
    unfolding anchor_checks
    spacing_is = spacing_holds a.circle a.number

    strength_is : holds checks.strength ≡ leb (1000 * max by_wind by_quake) (19950 * A)
    unfolding anchor_checks
    strength_is =
        strength_holds (larger_pull wind_pull quake_pull) A
        ∙ ap (λ (r : ℕ). leb (1000 * r) (19950 * A)) (larger_is wind_pull quake_pull)

    anchors_sound : stands (Anchored checks) ≡ true → AnchorsMeet no_margins t x Hs a
    anchors_sound e =
        let b = both_hold (holds checks.spacing) (holds checks.strength) e in
        let s : 1000 * max by_wind by_quake ≤ 19950 * A = leb-true _ _ (sym strength_is ∙ b.1) in
        record {
          spacing = leb-true _ _ (sym spacing_is ∙ b.0);
          wind = strong_safe t k a n p (wind_weight t) (wind_weight_in t k) (plus exact (whole 0)) M (omega (arith, rounded.safe)) (omega arith);
          quake = strong_safe t k a n p (quake_weight t x) (quake_weight_in t k x) (whole x.moment) x.moment (omega arith) (omega arith);
        }

    anchors_short : stands (Anchored checks) ≡ false → AnchorsMeet (margins_for t.diameter Hs) t x Hs a → ⊥
    anchors_short e m = go (one_fails (holds checks.spacing) (holds checks.strength) e)
      where
        go : (holds checks.spacing ≡ false) ⊎ (holds checks.strength ≡ false) → ⊥
        go (inl f) = not-le_of_lt (leb-false _ _ (sym spacing_is ∙ f)) m.spacing
        go (inr f) =
            let s : 19950 * A < 1000 * max by_wind by_quake = leb-false _ _ (sym strength_is ∙ f) in
            let w = strong_near t k a n p (wind_weight t) (wind_weight_in t k) (plus exact (moment_margin t.diameter Hs)) M (moment_with_den t x Hs) (omega (arith, rounded.near)) m.wind in
            let q = strong_near t k a n p (quake_weight t x) (quake_weight_in t k x) (whole x.moment) x.moment (omega arith) (omega arith) m.quake in
            omega (arith, s, w, q)

-- ---- what the method does not touch: "Floors and margins are shared"

-- the exact rules but for the courses' needs
pub standing_shared : (method other : Method) (m : Margins) (e : Entries) → MeetsWith method m e → CoursesMeet m e.tank other 0 (courses_of e) → MeetsWith other m e
standing_shared method other m e k c = record { each_course = c; self_anchored = k.self_anchored; anchored = k.anchored }

-- and the report but for its lines and its word
pub report_shared : (method other : Method) (t : Tank) (x : Site) (a : Anchors) (cs : List Course) → let r = report_of method t x a cs in let q = report_of other t x a cs in
    (r.count ≡ q.count) × ((r.pressure ≡ q.pressure) × ((r.moment ≡ q.moment) × ((r.standing ≡ q.standing) × (r.uses ≡ q.uses))))
unfolding report_of
report_shared method other t x a cs = (refl, (refl, (refl, (refl, refl))))

-- ---- the word

-- it tells whether both tests passed; sound and short differ in their second letters
word_of_lem : (b : Bool) → (tank_word (cond b Sound Short) ≡ ascii "sound" → b ≡ true) × (tank_word (cond b Sound Short) ≡ ascii "short" → b ≡ false)
word_of_lem true = ((λ e. refl), λ e. absurd (omega (arith, ap (λ (l : List ℕ). get_or l 1 0) e)))
word_of_lem false = ((λ e. absurd (omega (arith, ap (λ (l : List ℕ). get_or l 1 0) e))), λ e. refl)

module _ (method : Method) (e : Entries) (k : Valid e) where
  abbrev t : Tank
  t = e.tank

  abbrev x : Site
  x = e.site

  abbrev a : Anchors
  a = e.anchors

  abbrev cs : List Course
  cs = courses_of e

  abbrev Hs : ℕ
  Hs = height_of cs

  abbrev standing : Standing
  standing = standing_of t x a (moment_on t x Hs)

  self_anchored : a.number ≡ 0 → standing ≡ SelfAnchored (self_checks t x (moment_on t x Hs))
  unfolding standing_of
  self_anchored z = rw (eq-eqb _ _ z)

  anchored : 0 < a.number → standing ≡ Anchored (anchor_checks t x a (moment_on t x Hs))
  unfolding standing_of
  anchored p = rw (ne_eqb a.number 0 (λ z. omega (arith, z, p)))

  -- of both ways of standing at once
  stands_sound : stands standing ≡ true
      → (a.number ≡ 0 → SelfMeets no_margins t x Hs) × (0 < a.number → AnchorsMeet no_margins t x Hs a)
  stands_sound h = (
    λ z. self_sound t k.tank x Hs (ap stands (sym (self_anchored z)) ∙ h),
    λ p. anchors_sound t k.tank x Hs a k.anchors p (ap stands (sym (anchored p)) ∙ h),
  )

  stands_short : stands standing ≡ false → MeetsWith method (margins_of e) e → ⊥
  stands_short h m = go (eq-zero-or-pos a.number)
    where
      go : (a.number ≡ 0) ⊎ (0 < a.number) → ⊥
      go (inl z) = self_short t k.tank x Hs (ap stands (sym (self_anchored z)) ∙ h) (m.self_anchored z)
      go (inr p) = anchors_short t k.tank x Hs a k.anchors p (ap stands (sym (anchored p)) ∙ h) (m.anchored p)

  -- SOUND: EVERY RULE HOLDS WITH NOTHING ROUNDED
  pub sound_meets : tank_word (word_of (lines_of method t 0 cs) standing) ≡ ascii "sound" → MeetsWith method no_margins e
  unfolding word_of
  sound_meets h =
      let b = both_hold (courses_hold (lines_of method t 0 cs)) (stands standing) ((word_of_lem (courses_hold (lines_of method t 0 cs) && stands standing)).0 h) in
      let s = stands_sound b.1 in
      record { each_course = courses_sound method t 0 cs k.courses b.0; self_anchored = s.0; anchored = s.1 }

  -- SHORT: NOT EVERY RULE HOLDS ONCE ALL MARGINS ARE TAKEN AGAINST THE TANK
  pub short_breaks : tank_word (word_of (lines_of method t 0 cs) standing) ≡ ascii "short" → MeetsWith method (margins_of e) e → ⊥
  unfolding word_of
  short_breaks h m =
      go (one_fails (courses_hold (lines_of method t 0 cs)) (stands standing) ((word_of_lem (courses_hold (lines_of method t 0 cs) && stands standing)).1 h))
    where
      go : (courses_hold (lines_of method t 0 cs) ≡ false) ⊎ (stands standing ≡ false) → ⊥
      go (inl f) = courses_short method t Hs 0 cs k.courses f m.each_course
      go (inr f) = stands_short f m
