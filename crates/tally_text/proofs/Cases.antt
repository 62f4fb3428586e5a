-- Tallies and their text, computed by the checker.
-- Assumes nothing.
use mathlib.Core.Path.{◌≡◌, refl}
use mathlib.Core.List.{map}
use Rattle.words.specs.Decimal.{decimal}
use Rattle.tally_text.specs.Lines.{tally_text}
use Rattle.tally_text.specs.Cases.{TextCase, text_cases}

pub text_cases_lem : map (λ (c : TextCase). tally_text c.tally) text_cases ≡ map (λ (c : TextCase). c.text) text_cases
unfolding decimal tally_text
text_cases_lem = refl
