-- `fields::range::in_range` meets its contract: the test between the ends decides but for N at 0. Assumes nothing.
use mathlib.Core.Path.{◌∙◌}
use Rattle.fields.proofs.RangeLaws.{within_none, within_plain, within_some}
use Rattle.fields.proofs.range.in_range.Goals as goal

pub returns-then-field-ne-ANCHORS : goal.returns-then-field-ne-ANCHORS
returns-then-field-ne-ANCHORS c = c.in_span.ensures ∙ within_plain _ _ c.if-field-ne-ANCHORS.true

pub returns-then-figure-eq0 : goal.returns-then-figure-eq0
returns-then-figure-eq0 c = within_none _ _ c.if-field-ne-ANCHORS.false c.if-figure-eq0.true

pub returns : goal.returns
returns c = let a = c.args in c.in_span-2.ensures ∙ within_some a.field a.figure c.if-figure-eq0.false
