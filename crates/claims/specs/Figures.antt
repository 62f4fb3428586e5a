-- The figures of a sheet: each rule of document 01, that of hoop by either method and in steps (document 02, S-3 and S-7), that of pull
-- with the weight of each load (S-5), and hoop and resistance with the gravity (S-8), on what a sheet holds, rounded for the report and
-- exact for demand 3, side by side.
use Rattle.std.specs.Prelude.{ℕ, ◌-◌, ℤ}
use Rattle.exact.specs.Quotient.{Ratio, whole}
use Rattle.fields.specs.Bolt.{stress_area}
use Rattle.stability.specs.Anchors.{reduced_weight, pull_of, Strong}
use Rattle.stability.specs.Earthquake.{shell_weight, root_yield, bottom_weight, resistance_of, Resists}
use Rattle.rules.specs.Hoop.{head_of, design_head, hoop_exact, hoop_need}
use Rattle.rules.specs.Wind.{pressure_of, moment_exact, moment_of}
use Rattle.rules.specs.declared.method.Method.{Method}
use Rattle.entries.specs.declared.sheet.Tank.{Tank}
use Rattle.entries.specs.declared.sheet.Site.{Site}
use Rattle.entries.specs.declared.sheet.Anchors.{Anchors}
use Rattle.entries.specs.declared.sheet.Course.{Course}

-- by a method, of a course whose bottom edge is at y: what stands for h, and the hoop need without the allowance
abbrev pub design_head_on : Method → Tank → ℕ → ℕ
design_head_on method tank y = design_head method (head_of tank.level y)

abbrev pub need_on : Method → Tank → ℕ → Course → ℕ
need_on method tank y course = hoop_need (design_head_on method tank y) tank.diameter tank.gravity course.stress course.efficiency

abbrev pub need_exact_on : Method → Tank → ℕ → Course → Ratio
need_exact_on method tank y course = hoop_exact (design_head_on method tank y) tank.diameter tank.gravity course.stress course.efficiency

-- wind: p, and M on a shell of height Hs
abbrev pub pressure_on : Site → ℕ
pressure_on site = pressure_of site.exposure site.importance site.speed

abbrev pub moment_on : Tank → Site → ℕ → ℕ
moment_on tank site Hs = moment_of (pressure_on site) tank.diameter Hs

abbrev pub moment_exact_on : Tank → Site → ℕ → Ratio
moment_exact_on tank site Hs = moment_exact site.exposure site.importance site.speed tank.diameter Hs

-- self-anchored: T, and whether the resistance with nothing rounded but the yield is at least a fraction; tb is the bottom plate less its
-- allowance, and the yield is one for both: "the margin is measured from that yield"
abbrev pub bottom_plate : Tank → ℕ
bottom_plate tank = tank.plate - tank.allowance

abbrev pub yield_on : Tank → ℕ
yield_on tank = root_yield tank.fy tank.gravity

unfoldable pub resistance_on : Tank → Site → ℕ
resistance_on tank site =
    resistance_of tank.diameter
    (shell_weight tank.weight site.vertical tank.diameter)
    (bottom_weight (bottom_plate tank) (yield_on tank) tank.level tank.diameter tank.gravity)

unfoldable pub ResistsOn : Tank → Site → Ratio → Type 0
ResistsOn tank site f = Resists tank.weight site.vertical tank.diameter tank.level tank.gravity (bottom_plate tank) (yield_on tank) f

-- anchored: the dead weight that resists uplift, in the wind and in an earthquake; with such a weight, the net pull per anchor of a moment,
-- and whether the anchors hold the unrounded pull of one, with a margin
abbrev pub wind_weight : Tank → Ratio
wind_weight tank = whole tank.weight

abbrev pub quake_weight : Tank → Site → Ratio
quake_weight tank site = reduced_weight tank.weight site.vertical

abbrev pub pull_on : Anchors → Ratio → ℕ → ℤ
pull_on anchors weight moment = pull_of moment weight anchors.circle anchors.number

abbrev pub StrongOn : Anchors → Ratio → Ratio → Ratio → Type 0
StrongOn anchors weight moment margin =
    Strong moment weight anchors.circle anchors.number (stress_area anchors.size) margin
