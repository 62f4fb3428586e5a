-- The words that document 01 prints for the cases of the answers, as bytes.
use Rattle.std.specs.Prelude.{List, ℕ}
use Rattle.lists.specs.Ascii.{ascii}

abbrev pub ok_word : List ℕ
ok_word = ascii "ok"

abbrev pub short_word : List ℕ
short_word = ascii "short"

abbrev pub none_word : List ℕ
none_word = ascii "none"

abbrev pub lift_word : List ℕ
lift_word = ascii "lift"

abbrev pub over_word : List ℕ
over_word = ascii "over"

abbrev pub sound_word : List ℕ
sound_word = ascii "sound"
