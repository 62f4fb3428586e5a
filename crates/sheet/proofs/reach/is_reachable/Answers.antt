-- `sheet::reach::is_reachable` meets its contract. Assumes nothing.
use mathlib.Core.Path.{sym, ◌∙◌}
use Rattle.sheet.specs.Steps.{reachable}
use Rattle.sheet.proofs.RunLaws.{left_clauses}
use Rattle.sheet.proofs.reach.is_reachable.Goals as goal

pub returns-then-is_consistent : goal.returns-then-is_consistent
unfolding reachable
returns-then-is_consistent c =
    let r = left_clauses c.args.s (rw (sym c.is_consistent.ensures ∙ c.if-is_consistent.true) c.size_reachable.ensures) in
    record { value = r.0; left_by_run = r.1 }

pub returns-else-is_consistent : goal.returns-else-is_consistent
unfolding reachable
returns-else-is_consistent c =
    let r = left_clauses c.args.s (rw (sym c.is_consistent.ensures ∙ c.if-is_consistent.false) c.if-is_consistent.false) in
    record { value = r.0; left_by_run = r.1 }
