-- An upper bound of each figure with fields in range, as in `rules`: asked for of the figures that a function is handed, and shown of its
-- own figures in `proofs/Bounds.antt`.
use Rattle.std.specs.Prelude.{ℕ, ◌≤◌, ◌<◌}
use Rattle.exact.specs.Quotient.{Ratio}
use Rattle.fields.specs.Range.{range}

-- bottom plate net of its allowance, and the yield in the root of wL, which the heaviest liquor raises
abbrev pub most_plate : ℕ
most_plate = (range 4).greatest

abbrev pub most_yield : ℕ
most_yield = 65000

-- wt and wL (hundredths of a pound per foot), and T (foot-pounds)
abbrev pub most_shell : ℕ
most_shell = 31830985

abbrev pub most_bottom : ℕ
most_bottom = 2129920

abbrev pub most_resistance : ℕ
most_resistance = 13584362000

-- a dead weight in pounds, as a fraction: at most the greatest W, in parts of a pound down to ten-thousandths
pub record WeightIn (w : Ratio) : Type 0 where
  pub most : w.num ≤ 100000000000
  pub parts : 0 < w.den
  pub most_parts : w.den ≤ 10000

-- the two terms of a pull's numerator; with these bounds it is within i64
abbrev pub most_up : ℕ
most_up = 48000000000000000

abbrev pub most_down : ℕ
most_down = 30000000000000000

-- pull of an anchor (pounds)
abbrev pub most_pull : ℕ
most_pull = 800000000000
