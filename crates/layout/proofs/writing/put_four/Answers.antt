-- `layout::writing::put_four` meets its contract. Assumes nothing.
use mathlib.Core.Path.{◌∙◌, ap}
use Prim.Native.Nat.{◌+◌, ◌-◌}
use native.Mathlib.Omega.{arith}
use lib.Seq.{sets}
use lib.ListN.{length}
use Rattle.lists.proofs.SetsLaws.{put_mid_sets}
use Rattle.layout.proofs.NumberLaws.{to_bytes}
use Rattle.layout.proofs.writing.put_four.Goals as goal

pub returns : goal.returns
returns c =
    let a = c.args in
    let stored = c.copy_from_slice.ensures.after ∙ c.to_be_bytes.ensures ∙ to_bytes a.x in
    put_mid_sets a.at (a.at + 4 - a.at) a.out.now c.copy_from_slice.new.self (omega (arith, ap length stored)) (omega arith)
    ∙ ap (λ l. sets a.out.now a.at l) stored
