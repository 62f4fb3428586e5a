-- `tally_text::printing::print` meets its contract. Assumes nothing.
use native.Mathlib.Omega.{arith}
use Rattle.text.proofs.PrintLaws.{take_text}
use Rattle.tally_text.specs.Lines.{tally_text}
use Rattle.tally_text.proofs.printing.print.Goals as goal

pub returns : goal.returns
returns c =
    let p = c.put_text-size.ensures in
    let k = rw (take_text (tally_text c.args.t) _ (omega (arith, p.stored.after)) p.stored) at c.copy.ensures in
    record { value = k.value; buffer = k.buffer; code = k.code; t_len_bound = omega (arith, p.upper_bound, p.stored.after); lines = p.lines }
