-- `lines::storing::put_course` meets its contract. Assumes nothing.
use Rattle.words.proofs.StoreLaws.{then}
use Rattle.lines.proofs.storing.put_course.Goals as goal

pub returns : goal.returns
returns c =
    let figures = then c.put_figure.ensures (then c.put_figure-2.ensures (then c.put_figure-3.ensures c.put_figure-figures.ensures)) in
    then c.put.ensures (then c.put_figure.ensures (then c.put_figure-2.ensures (then c.put_figure-3.ensures (then c.put_figure-figures.ensures (then c.put_verdict.ensures c.put-2.ensures)))))
