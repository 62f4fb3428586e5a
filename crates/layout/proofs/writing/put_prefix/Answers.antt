-- `layout::writing::put_prefix` meets its contract. Assumes nothing.
use Rattle.layout.proofs.LayoutLaws.{prefix_stored}
use Rattle.layout.proofs.writing.put_prefix.Goals as goal

pub returns : goal.returns
returns c = prefix_stored c.args.n c.args.tank c.args.out.now c.put_fours.ensures c.figures.ensures
