-- The fields' ranges, once, as data: document 01, "Fields and their ranges". Whatever tests or asks for a field's
-- range reads it from `ranges`.
use Rattle.std.specs.Prelude.{Bool, true, false, ◌&&◌, ◌||◌, List, [], ◌∷◌, ℕ, zero, suc, ◌≤◌, leb, eqb, get_or}

-- The whole numbers from `least` to `greatest`, both included, and 0 too where `or_zero` says so.
pub record Range : Type 0 where
  pub least : ℕ
  pub greatest : ℕ
  pub or_zero : Bool

infix 40 ◌to◌
abbrev pub ◌to◌ : ℕ → ℕ → Range
a to b = record { least = a; greatest = b; or_zero = false }

abbrev pub zero_or : Range → Range
zero_or r = record { least = r.least; greatest = r.greatest; or_zero = true }

-- by the fields' numbers, 1 to 20
abbrev pub ranges : List Range
ranges =
    (12000 to 240000)  -- 1 D, diameter
    ∷ (1200 to 76800)  -- 2 H, water level above bottom
    ∷ (1 to 10000000)  -- 3 W, dead weight of shell and roof
    ∷ (100 to 500)  -- 4 bottom plate
    ∷ (0 to 250)  -- 5 its corrosion allowance
    ∷ (30000 to 50000)  -- 6 Fy, its yield
    ∷ (60 to 150)  -- 7 V, wind in mph
    ∷ (50 to 150)  -- 8 Kz in hundredths
    ∷ (100 to 125)  -- 9 I in hundredths
    ∷ (0 to 500)  -- 10 Av, vertical acceleration in thousandths of g
    ∷ (0 to 1000000000)  -- 11 Ms, earthquake moment
    ∷ zero_or (6 to 200)  -- 12 N, anchors
    ∷ (0 to 300000)  -- 13 B, bolt circle diameter
    ∷ (0 to 16)  -- 14 d, bolt size in eighths of an inch
    ∷ (1200 to 14400)  -- 15 course width
    ∷ (100 to 2000)  -- 16 course plate t
    ∷ (0 to 250)  -- 17 its allowance c
    ∷ (10000 to 40000)  -- 18 s, design stress
    ∷ (50 to 100)  -- 19 E, joint efficiency in hundredths
    ∷ (1000 to 1300)  -- 20 specific gravity in thousandths (document 02, S-8)
    ∷ []

-- the range of the field with this number; a number that is no field's has an empty one
abbrev pub range : ℕ → Range
range zero = 1 to 0
range (suc k) = get_or ranges k (1 to 0)

-- whether a figure is between the ends of a range, and whether it is in it
unfoldable pub between : Range → ℕ → Bool
between r x = leb r.least x && leb x r.greatest

unfoldable pub within : Range → ℕ → Bool
within r x = (r.or_zero && eqb x 0) || between r x

-- The figure x of field k, between the ends of its range: what a rule asks of it. A clause, and no type of figures: the fields of a forged
-- sheet hold any number, and each definition would have to take its figures apart. (For N that leaves 0 out, which the rules of
-- anchors do not meet.)
abbrev pub In : ℕ → ℕ → Type 0
In k x = ((range k).least ≤ x) × (x ≤ (range k).greatest)
