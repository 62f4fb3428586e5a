-- `lines::storing::put_self` meets its contract. Assumes nothing.
use Rattle.words.proofs.StoreLaws.{then}
use Rattle.lines.proofs.storing.put_self.Goals as goal

pub returns : goal.returns
returns c = then c.put.ensures (then c.put_verdict-wind.ensures (then c.put-2.ensures (then c.put_figure.ensures c.put_uplift.ensures)))
