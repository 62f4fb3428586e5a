-- `judge::courses::lines` meets its contract. Assumes nothing.
use mathlib.Core.List.{List, [], ◌∷◌, ◌++◌}
use mathlib.Core.Path.{◌≡◌, sym, ap, ◌∙◌}
use Prim.Native.Nat.{ℕ}
use native.Mathlib.Omega.{arith}
use lib.Seq.{length-take-le, get_or-take}
use lib.ListN.{length, get_or, take, set}
use Rattle.lists.specs.Pad.{padded}
use Rattle.lists.proofs.PadLaws.{padded_next}
use Rattle.fields.specs.Order.{clear}
use Rattle.parts.specs.Parts.{courses_clear}
use Rattle.entries.specs.Sheet.{blank_course}
use Rattle.flaws.specs.Flaws.{course_flaws}
use Rattle.entries.proofs.CourseLaws.{height_next, top_within}
use Rattle.lists.proofs.EachLaws.{each_at}
use Rattle.sheet.specs.Complete.{courses_of}
use Rattle.sheet.proofs.CompleteLaws.{courses_length}
use Rattle.reports.specs.Blank.{blank_line}
use Rattle.claims.specs.Report.{line_of, lines_of}
use Rattle.reports.specs.declared.report.CourseLine.{CourseLine}
use Rattle.claims.proofs.LineLaws.{lines_length, lines_next}
use Rattle.judge.proofs.courses.lines.Goals as goal

pub line-requires : goal.line-requires
unfolding courses_clear
line-requires c =
    let e = c.args.e.now in
    let i = c.loop-i.i in
    let long : length (courses_of e) ≡ e.count = courses_length e c.requires in
    let k = each_at (λ x. clear (course_flaws x)) (courses_of e) i blank_course (omega (arith, long)) c.requires.courses in
    record { tank_clear = c.requires.tank; course_clear = rw (get_or-take e.count e.courses i blank_course (omega arith)) at k }

pub overflow_add-edge : goal.overflow_add-edge
overflow_add-edge c =
    let e = c.args.e.now in
    omega (arith, top_within e.courses c.loop-i.i e.count (omega arith) (omega (arith, c.requires.few, c.requires.slots)), c.requires.low)

pub loop-i-preserved : goal.loop-i-preserved
loop-i-preserved c =
    let cs = c.args.e.now.courses in
    let i = c.loop-i.i in
    let m = c.args.method in
    let t = c.args.e.now.tank in
    let v = c.requires in
    let n : length (lines_of m t 0 (take i cs)) ≡ i = lines_length m t 0 (take i cs) ∙ length-take-le i cs (omega (arith, v.few, v.slots)) in
    let e = c.loop-i.invariant in
    record {
      edge = omega (arith, e.edge, height_next cs i (omega (arith, v.few, v.slots)));
      lines = ap (λ (ls : List CourseLine). set ls i c.line.result) e.lines
          ∙ padded_next blank_line (lines_of m t 0 (take i cs)) c.line.result i n (omega (arith, v.few))
          ∙ ap (λ (x : CourseLine). padded blank_line (lines_of m t 0 (take i cs) ++ x ∷ [])) (c.line.ensures ∙ ap (λ (y : ℕ). line_of m t y (get_or cs i blank_course)) e.edge)
          ∙ ap (padded blank_line) (sym (lines_next m t cs i (omega (arith, v.few, v.slots))));
    }
