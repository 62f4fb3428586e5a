-- What a tank is called: document 01, "The last line is `tank sound` or `tank short`".
use Rattle.std.specs.Prelude.{List, ℕ}
use Rattle.rules.specs.Words.{short_word, sound_word}
use Rattle.reports.specs.declared.report.Word.{Word}
use Rattle.reports.specs.declared.report.Word.TheVariants.{Sound, Short}

abbrev pub tank_word : Word → List ℕ
tank_word Sound = sound_word
tank_word Short = short_word
