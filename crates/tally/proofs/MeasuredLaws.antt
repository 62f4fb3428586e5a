-- What a report measures is within the bounds that the rules have: no figure of a tally leaves the machine's numbers.
-- Assumes nothing.
use Rattle.std.specs.Prelude.{Result, Ok, Err}
use mathlib.Core.Path.{◌≡◌, refl, sym, subst}
use mathlib.Core.List.{List, [], ◌∷◌}
use Prim.Native.Nat.{ℕ, ◌+◌}
use native.Mathlib.Omega.{arith}
use lib.Dec.{T, leb}
use lib.ListN.{length}
use mir.Facts.{and_yes, yes_and, yes_leb}
use Rattle.std.specs.List.{list_all}
use Rattle.std.specs.Result.{ForOk}
use Rattle.lists.proofs.PadLaws.{take_padded}
use Rattle.fields.specs.declared.refusal.Refusal.{Refusal}
use Rattle.fields.specs.Order.{Answer, clear, first_of}
use Rattle.rules.specs.Bounds.{most_required}
use Rattle.rules.specs.Method.{method_number, method_of}
use Rattle.rules.specs.declared.method.Method.{Method}
use Rattle.rules.specs.declared.method.Method.TheVariants.{D100}
use Rattle.entries.specs.declared.sheet.Tank.{Tank}
use Rattle.entries.specs.declared.sheet.Course.{Course}
use Rattle.entries.specs.declared.complete.Entries.{Entries}
use Rattle.flaws.specs.Flaws.{tank_flaws, course_flaws}
use Rattle.flaws.proofs.FieldLaws.{course_in_lem}
use Rattle.parts.specs.Parts.{courses_clear}
use Rattle.sheet.specs.Complete.{courses_of, Valid}
use Rattle.sheet.specs.Reading.{read_completed}
use Rattle.sheet.proofs.CompleteLaws.{courses_length}
use Rattle.reports.specs.Blank.{blank_line}
use Rattle.reports.specs.declared.report.Judgement.{Judgement}
use Rattle.claims.specs.Report.{line_of, lines_of, report_of}
use Rattle.claims.specs.Judging.{completed_order, judged_completed, report_on, report_with, unless_refused}
use Rattle.claims.proofs.FigureLaws.{required_in}
use Rattle.claims.proofs.JudgeLaws.{judged_refused}
use Rattle.claims.proofs.LineLaws.{line_for, lines_length}
use Rattle.marking.specs.Marking.{marked}
use Rattle.marking.proofs.MarkLaws.{bytes_valid, marked_completed}
use Rattle.tally.specs.Parts.{is_measured, Measured}

-- ---- the lines of a report

module _ (m : Method) (t : Tank) (h : T (clear (tank_flaws t))) where
  line_measured : (y : ℕ) (c : Course) → T (clear (course_flaws c)) → T (is_measured (line_of m t y c))
  line_measured y c k =
      let l = line_for m t y c in
      let r = required_in t h m y c k in
      let p = (course_in_lem c k).plate in
      yes_and (leb (line_of m t y c).required most_required) (leb (line_of m t y c).plate most_required)
      (yes_leb (omega (arith, l.required_is, r))) (yes_leb (omega (arith, l.plate_is, p)))

  lines_measured : (y : ℕ) (cs : List Course) → T (courses_clear cs) → T (list_all is_measured (lines_of m t y cs))
  unfolding courses_clear
  lines_measured y [] k = tt
  lines_measured y (c ∷ cs) k =
      let a = and_yes (clear (course_flaws c)) (courses_clear cs) k in
      yes_and (is_measured (line_of m t y c)) (list_all is_measured (lines_of m t (y + c.width) cs)) (line_measured y c a.0) (lines_measured (y + c.width) cs a.1)

report_measured : (m : Method) (e : Entries) → Valid e → Measured (report_with m e)
unfolding report_of
report_measured m e v =
    let n : length (courses_of e) ≡ e.count = courses_length e v in
    record {
      few = omega (arith, n, v.few);
      lines = subst (λ ls. T (list_all is_measured ls)) (sym (take_padded blank_line (lines_of m e.tank 0 (courses_of e)) (length (courses_of e)) (lines_length m e.tank 0 (courses_of e)))) (lines_measured m e.tank v.tank 0 (courses_of e) v.courses);
    }

-- beside a refusal it is blank, which measures nothing
unless_measured : (a : Answer) (j : Judgement) → Measured j.report → Measured (unless_refused a j).report
unless_measured (Ok u) j k = k
unless_measured (Err r) j k = record { few = omega arith; lines = tt }

pub marked_measured : (b : List ℕ) {j : Judgement} → j ≡ marked b → Measured j.report
unfolding judged_completed
marked_measured b e = rw (e, marked_completed b) (go (read_completed b) (bytes_valid b refl))
  where
    by_d100 : ℕ
    by_d100 = method_number D100

    go : (c : Result Entries Refusal) → ForOk c Valid → Measured (judged_completed by_d100 c).report
    go (Ok d) v = unless_measured (first_of (completed_order by_d100 (Ok d))) (report_on (method_of by_d100) d) (report_measured (method_of by_d100) d (v d refl))
    go (Err r) v = rw (judged_refused D100 r) (record { few = omega arith; lines = tt })
