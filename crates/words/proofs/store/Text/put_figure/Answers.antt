-- `words::store::Text::put_figure` meets its contract. Assumes nothing.
use native.Mathlib.Omega.{arith}
use Rattle.words.proofs.DecimalLaws.{decimal_most}
use Rattle.words.proofs.StoreLaws.{then, at_most}
use Rattle.words.proofs.store.Text.put_figure.Goals as goal

pub put_decimal-requires : goal.put_decimal-requires
put_decimal-requires c = omega (arith, decimal_most c.args.n c.ranges.n.fits)

pub returns : goal.returns
returns c = at_most (then c.put.ensures c.put_decimal.ensures) (omega (arith, decimal_most c.args.n c.ranges.n.fits))
