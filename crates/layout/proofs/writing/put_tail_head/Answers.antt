-- `layout::writing::put_tail_head` meets its contract. Assumes nothing.
use Rattle.layout.proofs.LayoutLaws.{head_stored}
use Rattle.layout.proofs.writing.put_tail_head.Goals as goal

pub returns : goal.returns
returns c =
    let a = c.args in
    head_stored a.site a.anchors a.n a.out.now a.at c.put_fours.ensures c.figures.ensures c.put_fours-2.ensures c.figures-2.ensures
