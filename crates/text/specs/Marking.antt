-- The whole marker: the bytes of a sheet are read, the sheet is judged, and the answer is printed.
use Rattle.std.specs.Prelude.{List, ℕ, ◌+◌}
use Rattle.layout.specs.declared.version.Version.TheVariants.{Two}
use Rattle.layout.specs.Layout.{whole_length}
use Rattle.marking.specs.Marking.{marked}
use Rattle.lines.specs.Text.{text_of}

unfoldable pub marked_text : List ℕ → List ℕ
marked_text b = text_of (marked b)

-- One byte more than the longest sheet has: nothing past it makes a difference (`cut_same`).
abbrev pub most_bytes : ℕ
most_bytes = whole_length Two 12 + 1
