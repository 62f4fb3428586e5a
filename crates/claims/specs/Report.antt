-- The report on a sheet with tank, site and courses, by a method for hoop need: document 01, "The rules"; document 02, S-3, S-5, S-7 and S-8.
use Rattle.std.specs.Prelude.{◌≡◌, Bool, cond, ◌&&◌, List, [], ◌∷◌, ℕ, ◌+◌, eqb, length}
use Rattle.fields.specs.Bolt.{stress_area}
use Rattle.stability.specs.Anchors.{larger_pull, spacing_verdict, strength_verdict, wind_verdict}
use Rattle.stability.specs.Earthquake.{uplift_of, quake_verdict}
use Rattle.rules.specs.Hoop.{required_plate, course_verdict}
use Rattle.rules.specs.Verdict.{VerdictFor, holds, used}
use Rattle.rules.specs.declared.method.Method.{Method}
use Rattle.entries.specs.Sheet.{height_of}
use Rattle.std.specs.List.{list_all}
use Rattle.lists.specs.Pad.{padded}
use Rattle.entries.specs.declared.sheet.Tank.{Tank}
use Rattle.entries.specs.declared.sheet.Site.{Site}
use Rattle.entries.specs.declared.sheet.Anchors.{Anchors}
use Rattle.entries.specs.declared.sheet.Course.{Course}
use Rattle.claims.specs.Figures.{need_on, pressure_on, moment_on, resistance_on, wind_weight, quake_weight, pull_on}
use Rattle.reports.specs.Blank.{blank_line}
use Rattle.reports.specs.declared.report.CourseLine.{CourseLine}
use Rattle.reports.specs.declared.report.SelfChecks.{SelfChecks}
use Rattle.reports.specs.declared.report.AnchorChecks.{AnchorChecks}
use Rattle.reports.specs.declared.report.Standing.{Standing}
use Rattle.reports.specs.declared.report.Standing.TheVariants.{SelfAnchored, Anchored}
use Rattle.reports.specs.declared.report.Uses.{Uses}
use Rattle.reports.specs.declared.report.Word.{Word}
use Rattle.reports.specs.declared.report.Word.TheVariants.{Sound, Short}
use Rattle.reports.specs.declared.report.Report.{Report}
use Rattle.reports.specs.declared.report.Checks.{Checks}

-- A course with this hoop need, which is without its allowance: the required plate, its plate, and whether it holds. Here is no method:
-- "Floors and margins are shared".
abbrev pub line_with : ℕ → Tank → Course → CourseLine
line_with need tank course =
    let required = required_plate need course.allowance tank.diameter in
    record { need = need; required = required; plate = course.plate; verdict = course_verdict required course.plate }

-- a course whose bottom edge is at y, by a method
unfoldable pub line_of : Method → Tank → ℕ → Course → CourseLine
line_of method tank y course = line_with (need_on method tank y course) tank course

-- So all of a line is of one need: the required plate is of it, and word and use are of the required plate.
pub record LineFor (need : ℕ) (tank : Tank) (course : Course) (line : CourseLine) : Type 0 where
  pub need_is : line.need ≡ need
  pub required_is : line.required ≡ required_plate need course.allowance tank.diameter
  pub plate_is : line.plate ≡ course.plate
  pub verdict_is : VerdictFor line.required line.plate line.verdict

-- courses from the bottom up, the first one's bottom edge at y
abbrev pub lines_of : Method → Tank → ℕ → List Course → List CourseLine
lines_of method tank y [] = []
lines_of method tank y (course ∷ above) = line_of method tank y course ∷ lines_of method tank (y + course.width) above

-- N = 0: wind with the moment M, T, lift, and the earthquake check, which holds unless lift is over (`quake_stands`)
unfoldable pub self_checks : Tank → Site → ℕ → SelfChecks
self_checks tank site M =
    let T = resistance_on tank site in
    record {
      wind = wind_verdict M tank.weight tank.diameter;
      resistance = T;
      uplift = uplift_of site.moment T;
      quake = quake_verdict site.moment T;
    }

-- N above 0: the pulls of M and, on the reduced weight, of Ms, spacing, and strength by the larger pull
unfoldable pub anchor_checks : Tank → Site → Anchors → ℕ → AnchorChecks
anchor_checks tank site anchors M =
    let wind = pull_on anchors (wind_weight tank) M in
    let quake = pull_on anchors (quake_weight tank site) site.moment in
    record {
      wind_pull = wind;
      quake_pull = quake;
      spacing = spacing_verdict anchors.circle anchors.number;
      strength = strength_verdict (larger_pull wind quake) (stress_area anchors.size);
    }

-- the tank's way of standing
unfoldable pub standing_of : Tank → Site → Anchors → ℕ → Standing
standing_of tank site anchors M =
    cond (eqb anchors.number 0) (SelfAnchored (self_checks tank site M)) (Anchored (anchor_checks tank site anchors M))

-- its two checks, wind and earthquake, or spacing and strength: whether both hold, and their uses side by side
abbrev pub checks_of : Standing → Checks
checks_of (SelfAnchored checks) = record { first = checks.wind; second = checks.quake }
checks_of (Anchored checks) = record { first = checks.spacing; second = checks.strength }

abbrev pub stands : Standing → Bool
stands standing = holds (checks_of standing).first && holds (checks_of standing).second

abbrev pub uses_of : Standing → Uses
uses_of standing = record { first = used (checks_of standing).first; second = used (checks_of standing).second }

-- "Sound: every course holds and the rules of its way of standing hold. Otherwise short."
unfoldable pub courses_hold : List CourseLine → Bool
courses_hold lines = list_all (λ line. holds line.verdict) lines

unfoldable pub word_of : List CourseLine → Standing → Word
word_of lines standing = cond (courses_hold lines && stands standing) Sound Short

unfoldable pub report_of : Method → Tank → Site → Anchors → List Course → Report
report_of method tank site anchors courses =
    let M = moment_on tank site (height_of courses) in
    let lines = lines_of method tank 0 courses in
    let standing = standing_of tank site anchors M in
    record {
      lines = padded blank_line lines;
      count = length courses;
      pressure = pressure_on site;
      moment = M;
      standing = standing;
      uses = uses_of standing;
      word = word_of lines standing;
    }
