-- `tally_text::storing::put_tally` meets its contract. Assumes nothing.
use mir.Facts.{to_z-of_z}
use mir.Syntax.{w64}
use mir.Val.{SFits}
use Rattle.std.proofs.Common.{rules}
use Rattle.words.proofs.StoreLaws.{then}
use Rattle.lines.proofs.TextLaws.{line_alone}
use Rattle.lists.specs.Ascii.{ascii}
use Rattle.tally_text.specs.Lines.{tally_text, least_word}
use mathlib.Core.List.{[], ◌∷◌}
use Rattle.tally_text.proofs.storing.put_tally.Goals as goal

pub returns-clause-appends : goal.returns-clause-appends
unfolding tally_text
returns-clause-appends c =
    let t = c.args.t in
    let f : SFits w64 t.sum = search rules in
    let sum = rw (to_z-of_z f) at c.put_sum.ensures in
    let least = line_alone (ascii "least" ∷ least_word t.least ∷ []) c.put_least.ensures in
    then c.put_count-read.ensures (then c.put_count-sound.ensures (then c.put_count-short.ensures (then c.put_count-refused.ensures (then sum least))))
