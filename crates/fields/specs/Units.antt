-- The units of documents 01 and 02 in those of source 003: lengths are in hundredths of an inch and plates in mils (document 01, "Fields and
-- their ranges"), gravity and accelerations in thousandths (fields 10 and 20; document 02, S-9). And the circle's number.
use Rattle.std.specs.Prelude.{ℕ}
use Rattle.exact.specs.Quotient.{Ratio, whole}
use Rattle.exact.specs.Fraction.{◌over◌, divided_by}

abbrev pub feet : ℕ → Ratio
feet n = n over 1200

abbrev pub thousandths : ℕ → Ratio
thousandths n = n over 1000

abbrev pub inches : ℕ → Ratio
inches n = n over 100

abbrev pub plate_inches : ℕ → Ratio
plate_inches t = t over 1000

-- R, "half of D", in inches
abbrev pub radius : ℕ → Ratio
radius D = divided_by (inches D) (whole 2)

-- π: document 01 takes the circle's number as 355/113
abbrev pub circle : Ratio
circle = 355 over 113
