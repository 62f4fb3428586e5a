-- `complete::status::of_bytes` meets its contract. Assumes nothing.
use mathlib.Core.Path.{◌∙◌, sym}
use Rattle.fields.proofs.OrderLaws.{passed_on}
use Rattle.sheet.proofs.RoundTrip.{read_refused, read_accepted, read_left, read_complete_clauses}
use Rattle.complete.proofs.status.of_bytes.Goals as goal

pub returns-in_err-reading : goal.returns-in_err-reading
returns-in_err-reading c =
    let b = c.args.bytes.now in
    let k = read_complete_clauses b (passed_on _ _ c.from_residual.ensures.1 ∙ sym (read_refused b c.read_with_height.ensures.value c.in_err-reading.was)) in
    record { value = k.0; code = k.1 }

pub complete_reachable-requires : goal.complete_reachable-requires
complete_reachable-requires c =
    let k = read_left c.args.bytes.now c.read_with_height.ensures.value c.in_ok-reading.was in
    record { reached = k.0; height_value = k.1 }

pub returns : goal.returns
returns c =
    let b = c.args.bytes.now in
    let k = read_complete_clauses b (c.complete_reachable.ensures ∙ sym (read_accepted b c.read_with_height.ensures.value c.in_ok-reading.was)) in
    record { value = k.0; code = k.1 }
