-- `judge::judging::report` meets its contract. Assumes nothing.
use mathlib.Core.Path.{◌≡◌, ◌∙◌}
use native.Mathlib.Omega.{arith}
use lib.ListN.{length}
use Rattle.lists.proofs.PadLaws.{take_padded}
use Rattle.flaws.proofs.FieldLaws.{tank_in_lem, site_in_lem}
use Rattle.sheet.specs.Complete.{courses_of}
use Rattle.sheet.proofs.CompleteLaws.{courses_length}
use Rattle.reports.specs.Blank.{blank_line}
use Rattle.claims.specs.Report.{lines_of, report_of}
use Rattle.claims.proofs.LineLaws.{lines_length}
use Rattle.claims.proofs.FigureLaws.{pressure_in, moment_in}
use Rattle.judge.proofs.judging.report.Goals as goal

pub pressure-pressure-requires : goal.pressure-pressure-requires
pressure-pressure-requires c = let x = site_in_lem c.args.e.site c.requires.site in
    record { exposure_in = x.exposure; importance_in = x.importance; speed_in = x.speed }

pub moment-moment-requires : goal.moment-moment-requires
moment-moment-requires c = let e = c.args.e in
    let v = c.requires in
    record { pressure_le_most_pressure = rw c.pressure-pressure.ensures (pressure_in e.tank v.tank e.site v.site); diameter_in = (tank_in_lem e.tank v.tank).diameter; height_le_most_height = omega (arith, v.high, v.low) }

pub standing-standing-requires : goal.standing-standing-requires
standing-standing-requires c =
    let e = c.args.e in
    let v = c.requires in
    record {
      valid = v;
      moment_le_most_moment = rw (c.moment-moment.ensures, c.pressure-pressure.ensures)
          (moment_in e.tank v.tank e.site v.site e.height (omega (arith, v.high, v.low)));
    }

pub returns : goal.returns
unfolding report_of
returns c = let m = c.args.method in
    let e = c.args.e in
    let l = c.lines-lines.ensures in
    let long : length (courses_of e) ≡ e.count = courses_length e c.requires in
    let few : length (lines_of m e.tank 0 (courses_of e)) ≡ e.count = lines_length m e.tank 0 (courses_of e) ∙ long in
    rw (c.word-word.ensures, c.uses-uses.ensures, c.standing-standing.ensures, l, take_padded blank_line (lines_of m e.tank 0 (courses_of e)) e.count few, long, c.moment-moment.ensures, c.pressure-pressure.ensures, c.requires.high)
