-- `lines::storing::put_wind` meets its contract. Assumes nothing.
use Rattle.words.proofs.StoreLaws.{then}
use Rattle.lines.proofs.storing.put_wind.Goals as goal

pub returns : goal.returns
returns c = then c.put.ensures (then c.put_figure.ensures (then c.put_figure-2.ensures c.put-2.ensures))
