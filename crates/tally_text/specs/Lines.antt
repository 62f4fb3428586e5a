-- A tally as six lines: document 02, S-11 ("The lines are `read`, `sound`, `short`, `refused`, `sum`, `least`, each with a blank and its figure").
use Rattle.std.specs.Prelude.{List, [], ◌∷◌, ℕ, ◌≤◌, length, ℤ, Option, None, Some}
use Rattle.lists.specs.Ascii.{ascii}
use Rattle.words.specs.Decimal.{decimal, signed}
use Rattle.lines.specs.Text.{Line, line, text}
use Rattle.tally.specs.declared.tally.Tally.{Tally}

-- "With no judged course the last is the word `none`."
abbrev pub least_word : Option ℤ → List ℕ
least_word None = ascii "none"
least_word (Some d) = signed d

abbrev pub tally_lines : Tally → List Line
tally_lines t =
    (ascii "read" ∷ decimal t.read ∷ [])
    ∷ (ascii "sound" ∷ decimal t.sound ∷ [])
    ∷ (ascii "short" ∷ decimal t.short ∷ [])
    ∷ (ascii "refused" ∷ decimal t.refused ∷ [])
    ∷ (ascii "sum" ∷ signed t.sum ∷ [])
    ∷ (ascii "least" ∷ least_word t.least ∷ [])
    ∷ []

unfoldable pub tally_text : Tally → List ℕ
tally_text t = text (tally_lines t)

-- No line is longer, nor the text: with twenty digits in each number, and a sign.
abbrev pub most_lines : List ℕ
most_lines = 26 ∷ 27 ∷ 27 ∷ 29 ∷ 26 ∷ 28 ∷ []

abbrev pub most_tally : ℕ
most_tally = 163

abbrev pub LinesWithin : List Line → List ℕ → Type 0
LinesWithin [] ns = Unit {0}
LinesWithin (l ∷ ls) [] = ⊥
LinesWithin (l ∷ ls) (n ∷ ns) = (length (line l) ≤ n) × LinesWithin ls ns
