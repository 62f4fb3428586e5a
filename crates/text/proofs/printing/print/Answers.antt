-- `text::printing::print` meets its contract. Assumes nothing.
use native.Mathlib.Omega.{arith}
use Rattle.lines.specs.Text.{text_of}
use Rattle.text.proofs.PrintLaws.{whole}
use Rattle.text.proofs.printing.print.Goals as goal

pub returns : goal.returns
returns c = let a = c.args in
    let p = c.put_text.ensures in
    let q = whole (text_of a.j) a.out.now (omega (arith, p.stored.after)) p.upper_bound p.stored in
    record { value = q.0.0; buffer = q.0.1.0; code = q.0.1.1; j_len_bound = q.1 }
