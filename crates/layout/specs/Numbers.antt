-- Numbers in bytes, both ways: document 01, "Filling in" ("All numbers are big-endian"). A byte is a number below 256.
use Rattle.std.specs.Prelude.{List, [], ◌∷◌, ◌++◌, ℕ, ◌+◌, ◌*◌, ◌/◌, ◌%◌, ◌<◌, get_or, drop, zero, suc}

pub record AllBytes (b : List ℕ) : Type 0 where
  pub below : (i : ℕ) → get_or b i 0 < 256

-- two bytes for the length, four for a field
abbrev pub two : ℕ → List ℕ
two x = (x / 256 % 256) ∷ (x % 256) ∷ []

abbrev pub four : ℕ → List ℕ
four x = (x / 16777216 % 256) ∷ (x / 65536 % 256) ∷ (x / 256 % 256) ∷ (x % 256) ∷ []

abbrev pub fours : List ℕ → List ℕ
fours [] = []
fours (x ∷ xs) = four x ++ fours xs

-- the number in the first bytes
abbrev pub two_in : List ℕ → ℕ
two_in b = 256 * get_or b 0 0 + get_or b 1 0

unfoldable pub four_in : List ℕ → ℕ
four_in b = 16777216 * get_or b 0 0 + 65536 * get_or b 1 0 + 256 * get_or b 2 0 + get_or b 3 0

-- n numbers of four bytes, from place i on; and from the start
abbrev pub figures_from : ℕ → ℕ → List ℕ → List ℕ
figures_from i zero b = []
figures_from i (suc n) b = four_in (drop i b) ∷ figures_from (i + 4) n b

abbrev pub figures_in : ℕ → List ℕ → List ℕ
figures_in n b = figures_from 0 n b
