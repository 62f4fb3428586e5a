-- `text::printing::print_small` meets its contract. Assumes nothing.
use native.Mathlib.Omega.{arith}
use Rattle.lines.specs.Text.{text_of}
use Rattle.text.proofs.PrintLaws.{take_text}
use Rattle.text.proofs.printing.print_small.Goals as goal

pub returns : goal.returns
returns c =
    let p = c.put_text-size.ensures in
    let k = rw (take_text (text_of c.args.j) _ (omega (arith, p.stored.after)) p.stored) at c.copy.ensures in
    ((k.value, (k.buffer, k.code)), omega (arith, p.upper_bound, p.stored.after))
