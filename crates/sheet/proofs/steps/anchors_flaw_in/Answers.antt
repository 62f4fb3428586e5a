-- `sheet::steps::anchors_flaw_in` meets its contract. Assumes nothing.
use mathlib.Core.Path.{sym, ◌∙◌}
use Rattle.fields.proofs.OrderLaws.{first_then, passed_on}
use Rattle.flaws.specs.Flaws.{anchor_flaws}
use Rattle.sheet.specs.Steps.{size_flaws}
use Rattle.sheet.proofs.steps.anchors_flaw_in.Goals as goal

pub returns-in_err-anchors_flaw : goal.returns-in_err-anchors_flaw
returns-in_err-anchors_flaw c =
    let a = c.args in
    rw (first_then (anchor_flaws a.diameter a.a) (size_flaws a.version a.a), sym c.anchors_flaw.ensures.value ∙ c.in_err-anchors_flaw.was)
    (passed_on _ _ c.from_residual.ensures.1)

pub returns-in-Two : goal.returns-in-Two
returns-in-Two c =
    let a = c.args in
    rw (first_then (anchor_flaws a.diameter a.a) (size_flaws a.version a.a), sym c.anchors_flaw.ensures.value ∙ c.in_ok-anchors_flaw.was, c.in-Two.is)
    c.size_flaw.ensures.value
