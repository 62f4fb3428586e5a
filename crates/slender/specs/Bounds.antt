-- What the functions here are handed, and upper bounds of what they give, as in `rules`.
use Rattle.std.specs.Prelude.{ℕ, ◌≤◌, T}
use Rattle.fields.specs.Range.{In}
use Rattle.slender.specs.Weights.{is_slender}
use Rattle.slender.specs.Question.{heights, thousandths_of_g}
use Rattle.slender.specs.declared.tank.Contents.{Contents}
use Rattle.slender.specs.declared.tank.Load.{Load}
use Rattle.slender.specs.declared.tank.SlenderTank.{SlenderTank}
use Rattle.slender.specs.declared.tank.Accelerations.{Accelerations}

-- contents within their ranges, of a slender tank
pub record Slender (c : Contents) : Type 0 where
  pub diameter : In 1 c.diameter
  pub level : In 2 c.level
  pub gravity : In 20 c.gravity
  pub slender : T (is_slender c)

pub record LoadIn (load : Load) : Type 0 where
  pub weight : In 3 load.weight
  pub height : load.height ≤ heights.greatest

pub record AccelerationsIn (g : Accelerations) : Type 0 where
  pub impulsive : g.impulsive ≤ thousandths_of_g.greatest
  pub convective : g.convective ≤ thousandths_of_g.greatest

pub record TankIn (t : SlenderTank) : Type 0 where
  pub contents : Slender t.contents
  pub shell : LoadIn t.shell
  pub roof : LoadIn t.roof

-- a weight of shell or roof times its height (pounds by hundredths of an inch), the two weights of the contents (pounds), and the two moments
-- (foot-pounds)
abbrev pub most_load_moment : ℕ
most_load_moment = 768000000000

abbrev pub most_impulsive_weight : ℕ
most_impulsive_weight = 30000000

abbrev pub most_convective_weight : ℕ
most_convective_weight = 10000000

abbrev pub most_impulsive_moment : ℕ
most_impulsive_moment = 2240000000

abbrev pub most_convective_moment : ℕ
most_convective_moment = 640000000
