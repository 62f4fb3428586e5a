-- `tally_text::storing::put_sum` meets its contract. Assumes nothing.
use Rattle.std.proofs.Common.{rules}
use Rattle.words.proofs.DecimalLaws.{signed_same}
use Rattle.words.proofs.StoreLaws.{then}
use Rattle.tally_text.proofs.storing.put_sum.Goals as goal

pub returns : goal.returns
returns c = then c.put.ensures (then (signed_same c.args.sum (search rules) c.put_signed.ensures) c.put-2.ensures)
