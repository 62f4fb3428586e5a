-- The figures of a sheet without flaws: each is within the bound that the rules ask for, and has its two laws, on the safe side of the exact
-- figure and within the margin of it. Where a rule changes, these are proved again, and what is said of the word stays.
-- Assumes nothing.
use mathlib.Core.Path.{◌≡◌}
use Prim.Native.Nat.{ℕ, ◌*◌, ◌≤◌, ◌<◌, ◌^◌, min}
use native.Mathlib.Nat.{mul-pos}
use native.Mathlib.Omega.{arith}
use lib.Dec.{T}
use Rattle.exact.specs.Quotient.{Ratio, whole, plus, down_of, up_to, AtLeast, positive_part}
use Rattle.fields.specs.Bolt.{stress_area, in_chart}
use Rattle.fields.specs.Range.{In}
use Rattle.fields.proofs.BoltLaws.{stress_area_above}
use Rattle.stability.specs.Anchors.{pull_margin}
use Rattle.rules.specs.Bounds.{most_height, most_moment, most_need, most_pressure, most_required}
use Rattle.stability.specs.Bounds.{WeightIn, most_bottom, most_plate, most_pull, most_resistance, most_shell, most_yield}
use Rattle.stability.specs.Earthquake.{shell_weight, root_most, bottom_root, bottom_weight, resistance_of, resistance_margin}
use Rattle.rules.specs.Hoop.{plate_margin, required_plate}
use Rattle.rules.specs.Wind.{moment_margin}
use Rattle.rules.specs.declared.method.Method.{Method}
use Rattle.stability.proofs.AnchorLaws.{strength_safe, strength_near}
use Rattle.rules.proofs.Bounds.{need_most, head_most, design_head_most, required_most, pressure_most, moment_most}
use Rattle.stability.proofs.Bounds.{yield_least, yield_most, shell_most, bottom_most, resistance_most, resistance_above, whole_weight_in, reduced_weight_in, pull_most}
use Rattle.stability.proofs.EarthquakeLaws.{water_yield, water_cap, root_fits, resistance_safe, resistance_near}
use Rattle.rules.proofs.HoopLaws.{hoop_rounded, water_need}
use Rattle.rules.proofs.WindLaws.{moment_rounded, moment_den, moment_margin_den}
use Rattle.fields.specs.Order.{clear}
use Rattle.flaws.specs.Flaws.{tank_flaws, site_flaws, anchor_flaws, course_flaws}
use Rattle.entries.specs.declared.sheet.Tank.{Tank}
use Rattle.entries.specs.declared.sheet.Site.{Site}
use Rattle.entries.specs.declared.sheet.Anchors.{Anchors}
use Rattle.entries.specs.declared.sheet.Course.{Course}
use Rattle.flaws.proofs.FieldLaws.{TankIn, SiteIn, AnchorsIn, tank_in_lem, site_in_lem, course_in_lem, anchors_in_lem}
use Rattle.claims.specs.Figures.{yield_on, design_head_on, need_on, need_exact_on, pressure_on, moment_on, moment_exact_on, bottom_plate, resistance_on, ResistsOn, wind_weight, quake_weight, pull_on, StrongOn}

-- a course's hoop need, by a method
pub need_rounded : (m : Method) (t : Tank) (y : ℕ) (c : Course) → T (clear (course_flaws c)) → AtLeast (need_exact_on m t y c) plate_margin (need_on m t y c)
need_rounded m t y c k = let i = course_in_lem c k in hoop_rounded _ _ _ _ _ (omega (arith, i.stress.0)) (omega (arith, i.efficiency.0))

-- OF WATER (GRAVITY 1,000, AS WHICH VERSION 1 IS READ) NEED AND RESISTANCE ARE DOCUMENT 01'S, THE NEED IN STEPS
module _ (t : Tank) (g : t.gravity ≡ 1000) where
  pub need_of_water : (m : Method) (y : ℕ) (c : Course) → T (clear (course_flaws c))
      → need_on m t y c ≡ up_to 5 (13 * design_head_on m t y * t.diameter) (72 * c.stress * c.efficiency)
  need_of_water m y c k =
      let i = course_in_lem c k in
      rw g (water_need (design_head_on m t y) t.diameter c.stress c.efficiency (omega (arith, i.stress.0)) (omega (arith, i.efficiency.0)))

  pub resistance_of_water : (x : Site)
      → resistance_on t x ≡ resistance_of t.diameter (shell_weight t.weight x.vertical t.diameter) (min (bottom_root (bottom_plate t) t.fy t.level) (down_of (t.level * t.diameter) 11250))
  unfolding resistance_on bottom_weight
  resistance_of_water x = rw (g, water_yield t.fy, water_cap t.level t.diameter)

-- the wind's moment
module _ (t : Tank) (x : Site) (Hs : ℕ) where
  pub moment_rounded_on : AtLeast (moment_exact_on t x Hs) (moment_margin t.diameter Hs) (moment_on t x Hs)
  moment_rounded_on = moment_rounded x.exposure x.importance x.speed t.diameter Hs

  pub moment_with_den : 0 < (plus (moment_exact_on t x Hs) (moment_margin t.diameter Hs)).den
  moment_with_den =
      mul-pos (moment_den x.exposure x.importance x.speed t.diameter Hs) (moment_margin_den t.diameter Hs)

-- what the functions of anchors ask for, of the anchors of a tank that has some
pub record Anchored (a : Anchors) : Type 0 where
  pub number : In 12 a.number
  pub circle : In 13 a.circle
  pub circle_above : 0 < a.circle
  pub size : T (in_chart a.size)
  pub area_above : 0 < stress_area a.size

module _ (t : Tank) (h : T (clear (tank_flaws t))) where
  abbrev tank : TankIn t
  tank = tank_in_lem t h

  pub net_most : bottom_plate t ≤ most_plate
  net_most = omega (arith, tank.plate.1)

  pub yield_in : yield_on t ≤ most_yield
  yield_in = yield_most t.fy t.gravity tank.fy tank.gravity

  pub head_in : (m : Method) (y : ℕ) → design_head_on m t y ≤ most_height
  head_in m y = design_head_most m _ (head_most t.level y tank.level)

  module _ (m : Method) (y : ℕ) (c : Course) (k : T (clear (course_flaws c))) where
    pub need_in : need_on m t y c ≤ most_need
    need_in =
        let i = course_in_lem c k in
        need_most _ t.diameter t.gravity c.stress c.efficiency (head_in m y) tank.diameter tank.gravity i.stress i.efficiency

    pub required_in : required_plate (need_on m t y c) c.allowance t.diameter ≤ most_required
    required_in = required_most _ c.allowance t.diameter need_in (course_in_lem c k).allowance

  module _ (x : Site) (k : T (clear (site_flaws x))) where
    abbrev site : SiteIn x
    site = site_in_lem x k

    pub pressure_in : pressure_on x ≤ most_pressure
    pressure_in = pressure_most x.exposure x.importance x.speed site.exposure site.importance site.speed

    pub moment_in : (Hs : ℕ) → Hs ≤ most_height → moment_on t x Hs ≤ most_moment
    moment_in Hs l = moment_most _ t.diameter Hs pressure_in tank.diameter l

    pub shell_in : shell_weight t.weight x.vertical t.diameter ≤ most_shell
    shell_in = shell_most t.weight x.vertical t.diameter tank.weight tank.diameter

    pub bottom_in : bottom_weight (bottom_plate t) (yield_on t) t.level t.diameter t.gravity ≤ most_bottom
    bottom_in = bottom_most (bottom_plate t) (yield_on t) t.level t.diameter t.gravity tank.level tank.diameter tank.gravity

    pub resistance_in : resistance_on t x ≤ most_resistance
    unfolding resistance_on
    resistance_in = resistance_most t.diameter _ _ tank.diameter shell_in bottom_in

    pub resistance_some : 0 < resistance_on t x
    unfolding resistance_on
    resistance_some =
        resistance_above t.weight x.vertical t.diameter t.level t.gravity (bottom_plate t) (yield_on t)
        (omega (arith, tank.net))
        net_most
        (yield_least t.fy t.gravity tank.fy tank.gravity)
        yield_in
        tank.level
        tank.diameter
        tank.gravity

  -- the resistance of a self-anchored tank, against a moment f
  module _ (x : Site) (f : Ratio) where
    wide : 0 < t.diameter
    wide = omega (arith, tank.diameter.0)

    fits : root_most (bottom_plate t) (yield_on t) t.level < 2 ^ 64
    fits = root_fits (bottom_plate t) (yield_on t) t.level net_most yield_in tank.level

    pub resists_safe : f.num ≤ resistance_on t x * f.den → ResistsOn t x f
    unfolding resistance_on ResistsOn
    resists_safe = resistance_safe t.weight x.vertical t.diameter t.level t.gravity (bottom_plate t) (yield_on t) wide fits f

    pub resists_near : 0 < f.den → ResistsOn t x (plus f (resistance_margin t.diameter)) → f.num < resistance_on t x * f.den
    unfolding resistance_on ResistsOn
    resists_near = resistance_near t.weight x.vertical t.diameter t.level t.gravity (bottom_plate t) (yield_on t) wide fits f

  -- the dead weight that resists uplift, in the wind and in an earthquake
  pub wind_weight_in : WeightIn (wind_weight t)
  wind_weight_in = whole_weight_in t.weight tank.weight

  pub quake_weight_in : (x : Site) → WeightIn (quake_weight t x)
  quake_weight_in x = reduced_weight_in t.weight _ tank.weight

  -- the anchors of a tank that has some
  module _ (a : Anchors) (k : T (clear (anchor_flaws t.diameter a))) (z : 0 < a.number) where
    anchors : AnchorsIn t.diameter a
    anchors = anchors_in_lem t.diameter a k (λ e. omega (arith, e, z))

    circle_above : 0 < a.circle
    circle_above = omega (arith, anchors.around, tank.diameter.0)

    pub anchored : Anchored a
    anchored =
        record {
          number = anchors.number;
          circle = anchors.circle;
          circle_above = circle_above;
          size = anchors.size;
          area_above = stress_area_above a.size anchors.size;
        }

    pub pull_in : (w : Ratio) (moment : ℕ) → WeightIn w → moment ≤ most_moment → positive_part (pull_on a w moment) ≤ most_pull
    pull_in w moment i l = pull_most moment w a.circle a.number l i.parts circle_above anchors.number

    -- their strength, against the pull of a moment that was rounded up from f
    module _ (w : Ratio) (i : WeightIn w) (f : Ratio) (moment : ℕ) where
      pub strong_safe : f.num ≤ moment * f.den → 1000 * positive_part (pull_on a w moment) ≤ 19950 * stress_area a.size → StrongOn a w f (whole 0)
      strong_safe = strength_safe f moment w a.circle a.number (stress_area a.size) i.parts z circle_above

      pub strong_near : 0 < f.den → moment * f.den ≤ f.num → StrongOn a w f pull_margin
          → 1000 * positive_part (pull_on a w moment) ≤ 19950 * stress_area a.size
      strong_near = strength_near f moment w a.circle a.number (stress_area a.size) i.parts z circle_above
