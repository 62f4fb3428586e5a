-- `lines::storing::put_code` meets its contract. Assumes nothing.
use mathlib.Core.Path.{◌≡◌}
use mathlib.Core.Bool.{true, false}
use lib.Dec.{eqb}
use native.Mathlib.Omega.{arith}
use borrow.Author.Tests.{eq-eqb, ne_eqb}
use Rattle.words.proofs.StoreLaws.{then, at_most}
use Rattle.lines.proofs.storing.put_code.Goals as goal

pub returns-then-p-eq-OUT_OF_RANGE : goal.returns-then-p-eq-OUT_OF_RANGE
returns-then-p-eq-OUT_OF_RANGE c =
    let e : eqb c.args.p.number 16 ≡ true = eq-eqb _ _ c.if-p-eq-OUT_OF_RANGE.true in
    rw e (then c.put_figure-number.ensures (then c.put_figure.ensures c.put.ensures))

pub returns : goal.returns
returns c =
    let e : eqb c.args.p.number 16 ≡ false = ne_eqb _ _ c.if-p-eq-OUT_OF_RANGE.false in
    rw e (at_most (then c.put_figure-number.ensures c.put-2.ensures) (omega arith))
