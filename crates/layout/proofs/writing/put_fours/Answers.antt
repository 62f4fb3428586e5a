-- `layout::writing::put_fours` meets its contract. Assumes nothing.
use mathlib.Core.Path.{◌∙◌, ap}
use Prim.Native.Nat.{◌+◌, ◌*◌}
use native.Mathlib.Omega.{arith}
use lib.Seq.{sets}
use lib.ListN.{get_or}
use Rattle.layout.specs.Numbers.{four}
use Rattle.layout.proofs.NumberLaws.{fours_next}
use Rattle.layout.proofs.writing.put_fours.Goals as goal

pub loop-i-preserved : goal.loop-i-preserved
loop-i-preserved c =
    let l = c.loop-i in
    let a = c.args in
    c.put_four.ensures
    ∙ ap (λ o. sets o (a.at + 4 * l.i) (four (get_or a.figures.now l.i 0))) l.invariant
    ∙ fours_next a.out.now a.figures.now a.at l.i (omega arith)
