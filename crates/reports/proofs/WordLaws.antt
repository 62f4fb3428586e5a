-- A tank is called one of document 01's two words, by their letters; so that demand 3, which speaks of these two, speaks of every report.
-- And what stands beside a refusal says short of everything.
-- Assumes nothing.
use mathlib.Core.Path.{◌≡◌, refl}
use mathlib.Core.Bool.{true, not}
use mathlib.Core.Logic.{◌⊎◌, inl, inr}
use Rattle.std.specs.List.{list_all}
use Rattle.lists.specs.Ascii.{ascii}
use Rattle.rules.specs.Verdict.{holds}
use Rattle.reports.specs.Blank.{blank_report}
use Rattle.reports.specs.Words.{tank_word}
use Rattle.reports.specs.declared.report.Word.{Word}
use Rattle.reports.specs.declared.report.Word.TheVariants.{Sound, Short}

pub one_of_two : (w : Word) → (tank_word w ≡ ascii "sound") ⊎ (tank_word w ≡ ascii "short")
one_of_two Sound = inl refl
one_of_two Short = inr refl

pub blank_short : (tank_word blank_report.word ≡ ascii "short") × (list_all (λ line. not (holds line.verdict)) blank_report.lines ≡ true)
blank_short = (refl, refl)
