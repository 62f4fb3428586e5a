-- An upper bound of the figures that a function here is handed, as in `rules`.
use Rattle.std.specs.Prelude.{ℕ, ◌≤◌, ◌<◌}
use Rattle.fields.specs.Range.{range}

-- the bottom course's plate less its allowance (mils)
abbrev pub most_net : ℕ
most_net = (range 16).greatest

abbrev pub NetPlate : ℕ → Type 0
NetPlate t = (0 < t) × (t ≤ most_net)

-- the coefficient (hundred-thousandths): the chart's last entry
abbrev pub most_coefficient : ℕ
most_coefficient = 7153
