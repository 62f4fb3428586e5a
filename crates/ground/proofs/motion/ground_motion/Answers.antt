-- `ground::motion::ground_motion` meets its contract. Assumes nothing.
use mathlib.Core.Path.{ap, ◌∙◌}
use Rattle.std.specs.Prelude.{Ok}
use Rattle.fields.proofs.OrderLaws.{passed_on}
use Rattle.ground.proofs.MotionLaws.{no_class, ss_above, s1_above, given_values, motion_clauses}
use Rattle.ground.proofs.motion.ground_motion.Goals as goal

pub returns-in_err-class : goal.returns-in_err-class
returns-in_err-class c =
    let a = c.args in
    motion_clauses a.class a.ss a.s1 (passed_on _ _ c.from_residual.ensures.1 ∙ no_class a.class a.ss a.s1 c.try_from.ensures c.in_err-class.was)

pub returns-then-ss-gt-MOST_MAPPED : goal.returns-then-ss-gt-MOST_MAPPED
returns-then-ss-gt-MOST_MAPPED c =
    let a = c.args in
    motion_clauses a.class a.ss a.s1 (ss_above a.class a.ss a.s1 c.try_from.ensures c.in_ok-class.was c.if-ss-gt-MOST_MAPPED.true)

pub returns-then-s1-gt-MOST_MAPPED : goal.returns-then-s1-gt-MOST_MAPPED
returns-then-s1-gt-MOST_MAPPED c =
    let a = c.args in
    motion_clauses a.class a.ss a.s1
    (s1_above a.class a.ss a.s1 c.try_from.ensures c.in_ok-class.was c.if-ss-gt-MOST_MAPPED.false c.if-s1-gt-MOST_MAPPED.true)

pub returns : goal.returns
returns c =
    let a = c.args in
    motion_clauses a.class a.ss a.s1
    (ap Ok c.design_values.ensures
    ∙ given_values a.class a.ss a.s1 c.try_from.ensures c.in_ok-class.was c.if-ss-gt-MOST_MAPPED.false c.if-s1-gt-MOST_MAPPED.false)
