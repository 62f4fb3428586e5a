-- The order of the question's refusals and its reply; what its figures are; and that no method changes them.
-- Assumes nothing.
use Rattle.std.specs.Prelude.{Result, Ok, Err}
use mathlib.Core.Path.{◌≡◌, refl, sym, ap, ◌∙◌, subst}
use mathlib.Core.Bool.{Bool, true, false, cond, ◌&&◌, true≢false}
use mathlib.Core.List.{[], ◌∷◌, ◌++◌}
use mathlib.Core.Logic.{◌↔◌}
use Prim.Native.Nat.{ℕ, ◌*◌, ◌<◌}
use native.Mathlib.Omega.{arith}
use lib.Dec.{T, eqb}
use borrow.Author.Tests.{eqb-false, eqb-true, ne_eqb}
use lib.Seq.{length-take-le, get_or-take}
use lib.ListN.{length, get_or, take}
use Rattle.lists.proofs.EachLaws.{each_at}
use Rattle.exact.specs.Quotient.{Ratio, down_of}
use Rattle.exact.specs.Fraction.{◌≤ʳ◌}
use Rattle.std.specs.Result.{result_and}
use Rattle.fields.specs.Order.{Answer, first_of, at, First, clear, codes}
use Rattle.fields.specs.Refusal.{plain}
use Rattle.fields.specs.declared.refusal.Refusal.{Refusal}
use Rattle.fields.specs.declared.refusal.Refusal.TheVariants.{ShellUplift, Unreachable}
use Rattle.fields.proofs.OrderLaws.{clash, first_then, first_append, first_code_lem, reply_refused, reply_code, reply_value, reply_given_holds, reply_refused_exactly, reply_given_exactly}
use Rattle.stability.specs.Earthquake.{uplift_of}
use Rattle.rules.specs.Method.{method_number, other_method}
use Rattle.rules.specs.declared.method.Method.{Method}
use Rattle.rules.proofs.MethodLaws.{is_method_lem}
use Rattle.buckling.specs.Bounds.{NetPlate}
use Rattle.buckling.specs.Coefficient.{argument_of, hundred_thousandths, coefficient_of}
use Rattle.buckling.specs.Allowed.{allowed_of}
use Rattle.buckling.specs.Stress.{stress_of}
use Rattle.buckling.proofs.StressLaws.{stress_rounded, stress_only}
use Rattle.buckling.proofs.CoefficientLaws.{water_argument, coefficient_safe}
use Rattle.buckling.proofs.AllowedLaws.{allowed_rounded, allowed_only, allowed_below}
use Rattle.entries.specs.Sheet.{blank_course}
use Rattle.flaws.specs.Flaws.{course_flaws}
use Rattle.entries.specs.declared.sheet.Tank.{Tank}
use Rattle.entries.specs.declared.sheet.Site.{Site}
use Rattle.entries.specs.declared.sheet.Anchors.{Anchors}
use Rattle.entries.specs.declared.sheet.Sheet.{Sheet}
use Rattle.flaws.proofs.FieldLaws.{CourseIn, course_in_lem, tank_in_lem}
use Rattle.parts.specs.Parts.{courses_clear}
use Rattle.sheet.specs.Runs.{LeftByRun}
use Rattle.sheet.specs.Complete.{incomplete, entries_of, entries_in, completed_of, Valid}
use Rattle.entries.specs.declared.complete.Entries.{Entries}
use Rattle.sheet.proofs.AnswerLaws.{never_answered, thirty_first}
use Rattle.sheet.proofs.CompleteLaws.{entries_are, complete_is, valid}
use Rattle.claims.specs.Figures.{resistance_on}
use Rattle.claims.specs.Report.{report_of, standing_of, self_checks, anchor_checks}
use Rattle.claims.specs.Judging.{water_above, judge_order, judged, judged_completed}
use Rattle.reports.specs.declared.report.Standing.TheVariants.{SelfAnchored, Anchored}
use Rattle.reports.specs.declared.report.Judgement.{Judgement}
use Rattle.claims.proofs.JudgeLaws.{judged_completed_lem, judged_answer, answer_first, accepted_entries, accepted_report}
use Rattle.compression.specs.Compression.{net_plate, self_anchored, lifts, shell_uplift, compression_order, coefficient_on, stresses_with, stresses_of, shell_compression, uplifted, unless_uplifted, no_stresses, compression_code, shell_compression_code, PrintedHelp, StressesJustified, ReplyJustified}
use Rattle.compression.specs.declared.question.Stresses.{Stresses}

-- ---- THE BOTTOM COURSE

module _ (e : Entries) (v : Valid e) where
  bottom_clear : T (clear (course_flaws (get_or e.courses 0 blank_course)))
  unfolding courses_clear
  bottom_clear =
      let n = e.count in
      let cs = e.courses in
      let long : length (take n cs) ≡ n = length-take-le n cs (omega (arith, v.few, v.slots)) in
      rw (get_or-take n cs 0 blank_course (omega (arith, v.some)))
      at (each_at (λ x. clear (course_flaws x)) (take n cs) 0 blank_course (omega (arith, long, v.some)) v.courses)

  pub bottom_in : CourseIn (get_or e.courses 0 blank_course)
  bottom_in = course_in_lem (get_or e.courses 0 blank_course) bottom_clear

  pub net_in : NetPlate (net_plate e)
  net_in = (omega (arith, bottom_in.net), omega (arith, bottom_in.plate.1))

-- ---- FIGURES

module _ (tank : Tank) (anchors : Anchors) (t : ℕ) where
  -- by the test that the code makes
  pub self_coefficient : anchors.number ≡ 0 → coefficient_on tank anchors t ≡ coefficient_of (argument_of tank.level tank.gravity tank.diameter t)
  unfolding coefficient_on
  self_coefficient e = rw e refl

  pub anchored_coefficient : (anchors.number ≡ 0 → ⊥) → coefficient_on tank anchors t ≡ 0
  unfolding coefficient_on
  anchored_coefficient f = rw (ne_eqb anchors.number 0 f) refl

-- of water (gravity 1,000) the coefficient is S-6's
pub coefficient_of_water : (tank : Tank) (anchors : Anchors) (t : ℕ) → tank.gravity ≡ 1000 → 0 < t
    → coefficient_on tank anchors t ≡ cond (self_anchored anchors) (coefficient_of (down_of (433 * tank.level * tank.diameter * tank.diameter) (139200000 * t * t))) 0
unfolding coefficient_on
coefficient_of_water tank anchors t g p = rw (g, water_argument tank.level tank.diameter t p)

module _ (e : Entries) (v₀ : Valid e) where
  diameter_above : 0 < e.tank.diameter
  diameter_above = omega (arith, (tank_in_lem e.tank v₀.tank).diameter.0)

  -- the coefficient is at most every one that the printed equations may take
  help_safe : (c : Ratio) → PrintedHelp e c → hundred_thousandths (coefficient_on e.tank e.anchors (net_plate e)) ≤ʳ c
  help_safe c p = go (eqb e.anchors.number 0) refl
    where
      go : (b : Bool) → eqb e.anchors.number 0 ≡ b → hundred_thousandths (coefficient_on e.tank e.anchors (net_plate e)) ≤ʳ c
      go true q =
          let z = eqb-true e.anchors.number 0 q in
          rw (self_coefficient e.tank e.anchors (net_plate e) z)
          (coefficient_safe e.tank.level e.tank.gravity e.tank.diameter (net_plate e) (net_in e v₀).0 c (p z).1)
      go false q = rw (anchored_coefficient e.tank e.anchors (net_plate e) (eqb-false e.anchors.number 0 q)) (omega arith)

  pub stresses_justified : StressesJustified e (stresses_of e)
  unfolding stresses_of
  stresses_justified =
      record {
        stress_rounded = stress_rounded e.tank.weight e.site.vertical e.site.moment e.tank.diameter (net_plate e) diameter_above (net_in e v₀).0;
        allowed_rounded = allowed_rounded e.tank.diameter (net_plate e) diameter_above (coefficient_on e.tank e.anchors (net_plate e));
        never_above = λ c p. allowed_below e.tank.diameter (net_plate e) diameter_above (coefficient_on e.tank e.anchors (net_plate e)) c (help_safe c p);
        held = refl;
      }

  -- and no other figures are so
  pub justified_only : (v : Stresses) → StressesJustified e v → v ≡ stresses_of e
  unfolding stresses_of
  justified_only v j =
      let D = e.tank.diameter in
      let t = net_plate e in
      rw (
        ← stress_only e.tank.weight e.site.vertical e.site.moment D t diameter_above (net_in e v₀).0 v.stress j.stress_rounded,
        ← allowed_only D t diameter_above (coefficient_on e.tank e.anchors t) v.allowed j.allowed_rounded,
        ← j.held,
      ) refl

-- the figures as they are worked out
pub worked_out : (e : Entries) {stress allowed k : ℕ} → stress ≡ stress_of e.tank.weight e.site.vertical e.site.moment e.tank.diameter (net_plate e)
    → k ≡ coefficient_on e.tank e.anchors (net_plate e) → allowed ≡ allowed_of k e.tank.diameter (net_plate e)
    → stresses_with stress allowed ≡ stresses_of e
unfolding stresses_of
worked_out e f g h = rw (f, h, g) refl

-- ---- THE ANSWER

module _ (n : ℕ) (s : Sheet) where
  -- the documents' numbers, in their order
  pub compression_order_lem : codes (compression_order n s)
      ≡ plain 30 ∷ plain 42 ∷ plain 32 ∷ plain 35 ∷ plain 36 ∷ plain 38 ∷ plain 37 ∷ plain 43 ∷ []
  compression_order_lem = refl

  -- each exactly under its condition with none before it,
  pub compression_exactly : (r : Refusal) → (shell_compression n s ≡ Err r) ↔ First (compression_order n s) r
  unfolding shell_compression
  compression_exactly = reply_refused_exactly (stresses_of (entries_of s)) (compression_order n s)

  -- figures exactly where no condition applies,
  pub given_exactly : (shell_compression n s ≡ Ok (stresses_of (entries_of s)))
      ↔ ((j : ℕ) → j < length (compression_order n s) → (at (compression_order n s) j).applies ≡ false)
  unfolding shell_compression
  given_exactly = reply_given_exactly (stresses_of (entries_of s)) (compression_order n s)

  -- and by code
  pub compression_code_lem : compression_code (shell_compression n s) ≡ shell_compression_code n s
  unfolding shell_compression shell_compression_code
  compression_code_lem =
      let order = compression_order n s in
      let v = stresses_of (entries_of s) in
      rw (reply_value v no_stresses (first_of order), reply_code v (first_of order), first_code_lem order)

-- any method gives the same reply
pub method_free : (method other : Method) (s : Sheet) → shell_compression (method_number method) s ≡ shell_compression (method_number other) s
unfolding shell_compression
method_free method other s = rw (is_method_lem method, is_method_lem other) refl

-- ---- ONCE THE SHEET IS JUDGED

-- what the report says of uplift is what 43 asks
pub uplift_is : (tank : Tank) (site : Site) (anchors : Anchors) (M : ℕ)
    → uplifted (standing_of tank site anchors M) ≡ self_anchored anchors && lifts (uplift_of site.moment (resistance_on tank site))
unfolding standing_of self_checks
uplift_is tank site anchors M = go (eqb anchors.number 0)
  where
    go : (b : Bool) → uplifted (cond b (SelfAnchored (self_checks tank site M)) (Anchored (anchor_checks tank site anchors M)))
        ≡ b && lifts (uplift_of site.moment (resistance_on tank site))
    go true = refl
    go false = refl

module _ (n : ℕ) (s : Sheet) where
  -- 43 comes after judging's own refusals
  compression_first : first_of (compression_order n s) ≡ result_and (first_of (judge_order n s)) (first_of (shell_uplift (entries_of s) ∷ []))
  compression_first = first_then (judge_order n s) (shell_uplift (entries_of s) ∷ [])

  -- 30 exactly where no run leaves the sheet
  pub thirty_compression : (shell_compression n s ≡ Err Unreachable) ↔ (LeftByRun s → ⊥)
  unfolding shell_compression
  thirty_compression =
      let f = thirty_first s (other_method n ∷ (incomplete s ++ water_above (entries_of s) ∷ []) ++ shell_uplift (entries_of s) ∷ []) tt in
      let g = reply_refused (stresses_of (entries_of s)) (first_of (compression_order n s)) Unreachable in
      (λ e. f.0 (g.0 e), λ k. g.1 (f.1 k))

  -- 43 exactly where judging gives a report, and the tank is self-anchored and lifts
  pub forty_three_exactly : (shell_compression n s ≡ Err ShellUplift)
      ↔ (((judged n s).answer ≡ Ok tt) × ((shell_uplift (entries_of s)).applies ≡ true))
  unfolding shell_compression
  forty_three_exactly =
      let f = go (first_of (judge_order n s)) (shell_uplift (entries_of s)).applies (never_answered ShellUplift (judge_order n s) tt) in
      let g = reply_refused (stresses_of (entries_of s)) (first_of (compression_order n s)) ShellUplift in (
        λ e. (judged_answer n s ∙ (f.0 (sym compression_first ∙ g.0 e)).0, (f.0 (sym compression_first ∙ g.0 e)).1),
        λ k. g.1 (compression_first ∙ f.1 (sym (judged_answer n s) ∙ k.0, k.1)),
      )
    where
      go : (a : Answer) (b : Bool) → (a ≡ Err ShellUplift → ⊥)
          → (◌≡◌ {A = Answer} (result_and a (cond {A = Answer} b (Err ShellUplift) (Ok (tt {0})))) (Err ShellUplift)) ↔ ((a ≡ Ok (tt {0})) × (b ≡ true))
      go (Ok u) true f = (λ e. (refl, refl), λ k. refl)
      go (Ok u) false f = (λ e. clash (sym e), λ k. absurd (true≢false (sym k.1)))
      go (Err r) b f = (λ e. absurd (f e), λ k. clash k.0)

  -- the reply, where judging is refused and where it is not
  module _ {c : Result Entries Refusal} (first : c ≡ completed_of s) {j : Judgement} (judgement : j ≡ judged_completed n c) where
    pub refused_first : {r : Refusal} → j.answer ≡ Err r → Err r ≡ shell_compression n s
    unfolding shell_compression
    refused_first e = sym (rw (compression_first, answer_first n s first judgement e) refl)

    pub accepted_first : j.answer ≡ Ok tt → unless_uplifted j.report.standing (entries_in c) ≡ shell_compression n s
    unfolding shell_compression report_of
    accepted_first e =
        rw (compression_first, answer_first n s first judgement e, accepted_report n s first judgement e, entries_are s first (accepted_entries n s first judgement e), uplift_is _ _ _ _) refl

  reply_justified : ReplyJustified (entries_of s) (shell_compression n s)
  unfolding shell_compression
  reply_justified =
      reply_given_holds (stresses_of (entries_of s)) (StressesJustified (entries_of s)) (first_of (compression_order n s)) accepted
    where
      accepted : first_of (compression_order n s) ≡ Ok tt → StressesJustified (entries_of s) (stresses_of (entries_of s))
      accepted e =
          let judged-accepted = judged_answer n s ∙ (first_append (judge_order n s) (shell_uplift (entries_of s) ∷ []) e).0 in
          let given = accepted_entries n s refl refl (ap (λ (j : Judgement). j.answer) (sym (judged_completed_lem n s)) ∙ judged-accepted) in
          stresses_justified (entries_of s) (valid s (complete_is s refl given))

  -- the further clauses of what answers as the definition does
  pub compression_clauses : {r : Result Stresses Refusal} → r ≡ shell_compression n s
      → (r ≡ shell_compression n s) × ((compression_code r ≡ shell_compression_code n s) × ReplyJustified (entries_of s) r)
  compression_clauses e = (e, (ap compression_code e ∙ compression_code_lem n s, subst (ReplyJustified (entries_of s)) (sym e) reply_justified))
