-- The charts of the site coefficients, and the straight lines between their columns: source 001, Sec. 14.2.4, Tables 3 and 4 (the same
-- figures as source 003, Tables 26 and 27).
use Rattle.std.specs.Prelude.{◌≡◌, cond, List, [], ◌∷◌, ℕ, suc, ◌+◌, ◌-◌, ◌*◌, ◌/◌, ◌%◌, ◌≤◌, ◌<◌, leb, get_or}

-- A chart: coefficients in tenths, a row for each site class from A to E, in five columns that stand `step` thousandths of g apart, the
-- first at `step`.
pub record Chart : Type 0 where
  pub step : ℕ
  pub rows : List (List ℕ)

abbrev pub chart : ℕ → List (List ℕ) → Chart
chart step rows = record { step = step; rows = rows }

abbrev pub row : ℕ → ℕ → ℕ → ℕ → ℕ → List ℕ
row a b c d e = a ∷ b ∷ c ∷ d ∷ e ∷ []

-- Table 3, Fa: Ss at 0.25, 0.50, 0.75, 1.00 and 1.25
abbrev pub fa : Chart
fa =
    chart 250
    (row 8 8 8 8 8  -- A
    ∷ row 10 10 10 10 10  -- B
    ∷ row 12 12 11 10 10  -- C
    ∷ row 16 14 12 11 10  -- D
    ∷ row 25 17 12 9 9  -- E
    ∷ [])

-- Table 4, Fv: S1 at 0.1, 0.2, 0.3, 0.4 and 0.5
abbrev pub fv : Chart
fv =
    chart 100
    (row 8 8 8 8 8  -- A
    ∷ row 10 10 10 10 10  -- B
    ∷ row 17 16 15 14 13  -- C
    ∷ row 24 20 18 16 15  -- D
    ∷ row 35 32 28 24 24  -- E
    ∷ [])

-- the row of a class by its capital letter, asked only of A (65) to E
abbrev pub row_of : Chart → ℕ → List ℕ
row_of c class = get_or c.rows (class - 65) []

-- the figure of column k, from 1 to 5, which stands at k × step
abbrev pub column : List ℕ → ℕ → ℕ
column figures k = get_or figures (k - 1) 0

-- `past` beyond column k, on the straight line from its figure to that of the next column; times step
abbrev pub on_line : ℕ → List ℕ → ℕ → ℕ → ℕ
on_line step figures k past = column figures k * (step - past) + column figures (suc k) * past

-- The coefficient at x thousandths of g, as a whole number over 10 × step
unfoldable pub interpolated : ℕ → List ℕ → ℕ → ℕ
interpolated step figures x =
    cond (leb x step) (column figures 1 * step)
    (cond (leb (5 * step) x) (column figures 5 * step) (on_line step figures (x / step) (x % step)))

-- Fa or Fv of a class at x thousandths of g, over 10 × step
abbrev pub coefficient_of : Chart → ℕ → ℕ → ℕ
coefficient_of c class x = interpolated c.step (row_of c class) x

-- "with straight lines between the columns and the end columns' figures outside them" (document 02, S-2), of a coefficient over
-- 10 × step: at a column it is the column's figure (n tenths are n × step over 10 × step); from one column to the next, both included, it is
-- on the line through the two, exactly. `interpolated` is so, and no other function (proofs/ChartLaws.antt).
pub record Interpolates (step : ℕ) (figures : List ℕ) (f : ℕ → ℕ) : Type 0 where
  pub before_first : (x : ℕ) → x ≤ step → f x ≡ column figures 1 * step
  pub on_column : (k : ℕ) → 1 ≤ k → k ≤ 5 → f (k * step) ≡ column figures k * step
  pub between : (k past : ℕ) → 1 ≤ k → k < 5 → past ≤ step
      → f (k * step + past) * step ≡ f (k * step) * (step - past) + f (suc k * step) * past
  pub past_last : (x : ℕ) → 5 * step ≤ x → f x ≡ column figures 5 * step
