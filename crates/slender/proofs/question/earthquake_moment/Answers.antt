-- `slender::question::earthquake_moment` meets its contract. Assumes nothing.
use mathlib.Core.Path.{sym, ap, ◌∙◌}
use Rattle.std.specs.Prelude.{Ok}
use Rattle.slender.proofs.QuestionLaws.{tank_in, accelerations_in_ranges, outside, other, too_large_moment, given, moment_clauses}
use Rattle.slender.proofs.question.earthquake_moment.Goals as goal

pub returns-then-not-in_ranges : goal.returns-then-not-in_ranges
returns-then-not-in_ranges c =
    moment_clauses c.args.tank c.args.ground (outside c.args.tank c.args.ground (sym c.in_ranges.ensures ∙ c.if-not-in_ranges.true))

pub returns-then-not-is_slender : goal.returns-then-not-is_slender
returns-then-not-is_slender c =
    moment_clauses c.args.tank c.args.ground
    (other c.args.tank c.args.ground (sym c.in_ranges.ensures ∙ c.if-not-in_ranges.false) (sym c.is_slender.ensures ∙ c.if-not-is_slender.true))

pub earthquake-moment-requires : goal.earthquake-moment-requires
earthquake-moment-requires c =
    let t = c.args.tank in
    let g = c.args.ground in
    let inside = sym c.in_ranges.ensures ∙ c.if-not-in_ranges.false in
    let slender = sym c.is_slender.ensures ∙ c.if-not-is_slender.false in
    record { tank_in = tank_in t g inside slender; accelerations_in = accelerations_in_ranges t g inside slender }

pub returns-then-moment-gt-MOST_MOMENT : goal.returns-then-moment-gt-MOST_MOMENT
returns-then-moment-gt-MOST_MOMENT c =
    let t = c.args.tank in
    let g = c.args.ground in
    moment_clauses t g
    (too_large_moment t g (sym c.in_ranges.ensures ∙ c.if-not-in_ranges.false) (sym c.is_slender.ensures ∙ c.if-not-is_slender.false)
    (rw (← c.earthquake-moment.ensures) c.if-moment-gt-MOST_MOMENT.true))

pub returns : goal.returns
returns c =
    let t = c.args.tank in
    let g = c.args.ground in
    moment_clauses t g
    (ap Ok c.earthquake-moment.ensures
    ∙ given t g (sym c.in_ranges.ensures ∙ c.if-not-in_ranges.false) (sym c.is_slender.ensures ∙ c.if-not-is_slender.false)
    (rw (← c.earthquake-moment.ensures) c.if-moment-gt-MOST_MOMENT.false))
