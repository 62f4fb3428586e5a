-- `sheet::steps::added_flaw` meets its contract. Assumes nothing.
use mathlib.Core.Path.{sym, ap, ◌∙◌}
use mathlib.Core.List.{[], ◌∷◌}
use Prim.Native.Nat.{◌+◌}
use lib.Dec.{ltb}
use Rattle.fields.specs.declared.refusal.Refusal.TheVariants.{ShellTooHigh}
use Rattle.fields.specs.Order.{◌when◌, first_of}
use Rattle.fields.proofs.OrderLaws.{first_then, passed_on}
use Rattle.flaws.specs.Flaws.{too_high, course_flaws}
use Rattle.sheet.proofs.steps.added_flaw.Goals as goal

pub returns-in_err-course_flaw : goal.returns-in_err-course_flaw
returns-in_err-course_flaw c =
    let a = c.args in
    rw (first_then (course_flaws a.c) (too_high a.height a.c ∷ []), sym c.course_flaw.ensures.value ∙ c.in_err-course_flaw.was)
    (passed_on _ _ c.from_residual.ensures.1)

pub returns : goal.returns
returns c =
    let a = c.args in
    rw (first_then (course_flaws a.c) (too_high a.height a.c ∷ []), sym c.course_flaw.ensures.value ∙ c.in_ok-course_flaw.was)
    (c.check_height.ensures ∙ ap (λ w. first_of ((ShellTooHigh when ltb 76800 (a.height + w)) ∷ [])) c.from.ensures)
