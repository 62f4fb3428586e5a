-- The bolt chart: document 01, "Anchored"; document 02, S-10.
use Rattle.std.specs.Prelude.{Bool, false, ◌||◌, cond, List, [], ◌∷◌, ℕ, eqb}

-- a size in eighths of an inch, and its stress area A in thousandths of a square inch
pub record Bolt : Type 0 where
  pub size : ℕ
  pub area : ℕ

infix 40 ◌has◌
abbrev pub ◌has◌ : ℕ → ℕ → Bolt
d has a = record { size = d; area = a }

abbrev pub chart : List Bolt
chart =
    (6 has 334)
    ∷ (7 has 462)
    ∷ (8 has 606)
    ∷ (9 has 763)
    ∷ (10 has 969)
    ∷ (11 has 1155)
    ∷ (12 has 1405)
    ∷ (14 has 1900)
    ∷ (16 has 2500)
    ∷ []

abbrev pub area_in : List Bolt → ℕ → ℕ
area_in [] d = 0
area_in (b ∷ bs) d = cond (eqb d b.size) b.area (area_in bs d)

-- whether the size d is in the chart
abbrev pub size_in : List Bolt → ℕ → Bool
size_in [] d = false
size_in (b ∷ bs) d = eqb d b.size || size_in bs d

unfoldable pub in_chart : ℕ → Bool
in_chart d = size_in chart d

-- A of the size d, and 0 for a size that is not in the chart
unfoldable pub stress_area : ℕ → ℕ
stress_area d = area_in chart d

-- S-10: "The supplier has dropped size 6". The chart keeps it, since "version 1 sheets of standing tanks that use it are still read and judged".
abbrev pub discontinued : ℕ → Bool
discontinued d = eqb d 6
