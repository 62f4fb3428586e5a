-- `text::printing::copy` meets its contract. Assumes nothing.
use mathlib.Core.Path.{refl}
use native.Mathlib.Omega.{arith}
use Rattle.text.proofs.PrintLaws.{copied_in, no_room_lem}
use Rattle.text.proofs.printing.copy.Goals as goal

pub returns-then-out-size : goal.returns-then-out-size
returns-then-out-size c = let p = no_room_lem c.args.text.now c.args.out.now refl (omega arith) in
    record { value = p.0; buffer = p.1.0; code = p.1.1 }

pub returns : goal.returns
returns c = let p = copied_in c.args.text.now c.args.out.now refl (omega arith) in
    rw c.copy_from_slice.ensures.after (record { value = p.0; buffer = p.1.0; code = p.1.1 })
