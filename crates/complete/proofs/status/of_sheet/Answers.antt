-- `complete::status::of_sheet` meets its contract. Assumes nothing.
use mathlib.Core.Path.{◌≡◌, refl, sym, ◌∙◌, subst}
use lib.Dec.{T}
use Rattle.std.specs.Prelude.{Result, Err}
use Rattle.fields.specs.declared.refusal.Refusal.{Refusal}
use Rattle.fields.specs.declared.refusal.Refusal.TheVariants.{Unreachable}
use Rattle.sheet.specs.Complete.{completed_of}
use Rattle.entries.specs.declared.complete.Entries.{Entries}
use Rattle.sheet.proofs.ReachLaws.{reach_slots}
use Rattle.sheet.proofs.CompleteLaws.{complete_clauses}
use Rattle.complete.proofs.status.of_sheet.Goals as goal

pub returns-then-not-is_reachable : goal.returns-then-not-is_reachable
unfolding completed_of
returns-then-not-is_reachable c =
    let thirty : ◌≡◌ {A = Result Entries Refusal} (Err Unreachable) (completed_of c.args.s) = rw (sym c.is_reachable.ensures.value ∙ c.if-not-is_reachable.true) refl in
    let k = complete_clauses c.args.s thirty in
    record { value = k.0; code = k.1 }

pub shared_ref_as_front-height : goal.shared_ref_as_front-height
shared_ref_as_front-height c =
    (reach_slots c.args.s (subst T (sym (sym c.is_reachable.ensures.value ∙ c.if-not-is_reachable.false)) tt)).few

pub returns : goal.returns
returns c =
    let k = complete_clauses c.args.s c.complete_reachable.ensures in
    record { value = k.0; code = k.1 }
