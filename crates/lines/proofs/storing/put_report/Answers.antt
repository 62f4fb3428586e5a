-- `lines::storing::put_report` meets its contract. Assumes nothing.
use Rattle.std.proofs.Common.{◌≡◌, length, min}
use mathlib.Core.List.{[], ◌∷◌}
use native.Mathlib.Omega.{arith}
use lib.ListN.{take, length-take}
use Rattle.std.proofs.lemmas.List.{take_min}
use Rattle.lines.specs.Text.{wind_line, course_lines, standing_lines, tank_line}
use Rattle.lines.proofs.TextLaws.{texts_then, line_alone}
use Rattle.words.proofs.StoreLaws.{then, at_most}
use Rattle.lines.proofs.storing.put_report.Goals as goal

pub returns : goal.returns
returns c = let r = c.args.r in
    let held : c.min-held.result ≡ min r.count (length r.lines) = c.min-held.ensures in
    let courses = rw (held, take_min r.count r.lines) at c.put_courses-courses.ensures in
    let tank = line_alone (tank_line r.word) c.put_tank.ensures in
    let standing = texts_then (standing_lines r.standing) (tank_line r.word ∷ []) c.put_standing-standing.ensures tank in
    let all = texts_then (course_lines 1 (take r.count r.lines)) (wind_line r.pressure r.moment ∷ _) courses (then c.put_wind-wind.ensures standing) in
    at_most all (omega (arith, length-take r.count r.lines))
