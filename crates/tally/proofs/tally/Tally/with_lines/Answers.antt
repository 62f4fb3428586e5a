-- `tally::tally::Tally::with_lines` meets its contract. Assumes nothing.
use mathlib.Core.Path.{ap, ◌∙◌}
use native.Mathlib.Omega.{arith}
use lib.IntN.{ℤ}
use Rattle.std.specs.Prelude.{Some}
use Rattle.std.proofs.lemmas.Int.{ints}
use Rattle.tally.specs.Parts.{lesser}
use Rattle.tally.proofs.PartLaws.{sum_more, least_more, one_bounded, sum_bounded}
use Rattle.tally.proofs.tally.Tally.with_lines.Goals as goal

pub overflow_add-sum : goal.overflow_add-sum
overflow_add-sum c =
    let l = c.loop-line in
    let cs = c.args.lines.now in
    omega (arith, ints, l.invariant.sum, sum_bounded cs l.line-index c.requires.measured, one_bounded cs l.line-index _ (omega arith) c.difference-d.ensures c.requires.measured)

pub loop-line-preserved : goal.loop-line-preserved
loop-line-preserved c =
    let l = c.loop-line in
    let cs = c.args.lines.now in
    let one = one_bounded cs l.line-index _ (omega arith) c.difference-d.ensures c.requires.measured in
    record {
      sum = omega (arith, ints, l.invariant.sum, sum_bounded cs l.line-index c.requires.measured, one, sum_more cs l.line-index _ (omega arith) c.difference-d.ensures);
      least = c.lesser-least.ensures ∙ ap (λ (z : ℤ). lesser l.least (Some z)) (omega (arith, ints, one)) ∙ least_more cs l.line-index _ (omega arith) c.difference-d.ensures c.args.self.least l.invariant.least;
    }
