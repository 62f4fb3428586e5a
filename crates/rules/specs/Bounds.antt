-- An upper bound of each figure with fields in range. A rule asks for these of the figures that it is handed, and `proofs/Bounds.antt`
-- shows them of the rules' own figures; with them no product leaves 64 bits and no side of a comparison reaches 2 ^ 53.
use Rattle.std.specs.Prelude.{ℕ}
use Rattle.fields.specs.Range.{range}

-- water level, shell height and head
abbrev pub most_height : ℕ
most_height = (range 2).greatest

-- hoop need, and required plate: that with the greatest allowance (mils)
abbrev pub most_need : ℕ
most_need = 8655

abbrev pub most_required : ℕ
most_required = 8905

-- wind pressure (hundredths of a psf)
abbrev pub most_pressure : ℕ
most_pressure = 6480

-- overturning moment (foot-pounds), of wind or earthquake; asked for by a clause, since a moment is also a figure of a sheet
abbrev pub most_moment : ℕ
most_moment = (range 11).greatest
