-- `judge::courses::line` meets its contract. Assumes nothing.
use Rattle.flaws.proofs.FieldLaws.{tank_in_lem, course_in_lem}
use Rattle.claims.specs.Report.{line_of}
use Rattle.claims.proofs.FigureLaws.{head_in, need_in, required_in}
use Rattle.judge.proofs.courses.line.Goals as goal

pub need-need-requires : goal.need-need-requires
need-need-requires c = let k = course_in_lem c.args.c c.requires.course_clear in
    record { h_le_most_height = rw (c.design_head-design.ensures, c.head-h.ensures) (head_in c.args.tank c.requires.tank_clear _ c.args.edge); diameter_in = (tank_in_lem c.args.tank c.requires.tank_clear).diameter; gravity_in = (tank_in_lem c.args.tank c.requires.tank_clear).gravity; stress_in = k.stress; efficiency_in = k.efficiency }

pub required-required-requires : goal.required-required-requires
required-required-requires c = record { need_le_most_need = rw (c.need-need.ensures, c.design_head-design.ensures, c.head-h.ensures) (need_in c.args.tank c.requires.tank_clear _ c.args.edge c.args.c c.requires.course_clear); allowance_in = (course_in_lem c.args.c c.requires.course_clear).allowance }

pub check-verdict-requires : goal.check-verdict-requires
check-verdict-requires c = record { required_le_most_required = rw (c.required-required.ensures, c.need-need.ensures, c.design_head-design.ensures, c.head-h.ensures) (required_in c.args.tank c.requires.tank_clear _ c.args.edge c.args.c c.requires.course_clear); plate_in = (course_in_lem c.args.c c.requires.course_clear).plate }

pub returns : goal.returns
unfolding line_of
returns c = rw (c.check-verdict.ensures.value, c.required-required.ensures, c.need-need.ensures, c.design_head-design.ensures, c.head-h.ensures)
