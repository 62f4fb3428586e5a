-- `sheet::reading::read` meets its contract: every byte of a slice is below 256. Assumes nothing.
use mathlib.Core.Path.{ap, ◌∙◌}
use native.Mathlib.Omega.{arith}
use Rattle.layout.specs.Numbers.{AllBytes}
use Rattle.sheet.specs.Steps.{refused}
use Rattle.sheet.proofs.RoundTrip.{reading_is, refusal_is, read_clauses}
use Rattle.sheet.proofs.reading.read.Goals as goal

pub returns-in-Ok : goal.returns-in-Ok
returns-in-Ok c =
    let b = c.args.bytes.now in
    let bytes : AllBytes b = record { below = λ i. omega (arith, c.type_inv.bytes i) } in
    let r = read_clauses b bytes (reading_is b c.read_with_height.ensures.value c.in-Ok.is) in
    record { value = r.0; code = r.1.0; writes_back = r.1.1 }

pub returns-in-Err : goal.returns-in-Err
returns-in-Err c =
    let b = c.args.bytes.now in
    let bytes : AllBytes b = record { below = λ i. omega (arith, c.type_inv.bytes i) } in
    let r = read_clauses b bytes (ap (refused c.in-Err.refusal) c.empty.ensures ∙ refusal_is b c.read_with_height.ensures.value c.in-Err.is) in
    record { value = r.0; code = r.1.0; writes_back = r.1.1 }
