-- `tally_text::storing::put_count` meets its contract. Assumes nothing.
use native.Mathlib.Omega.{arith}
use Rattle.words.proofs.StoreLaws.{then, at_most}
use Rattle.tally_text.proofs.storing.put_count.Goals as goal

pub returns : goal.returns
returns c = at_most (then c.put.ensures (then c.put_figure.ensures c.put-2.ensures)) (omega arith)
