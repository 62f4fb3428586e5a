-- `layout::reading::four_at` meets its contract. Assumes nothing.
use mathlib.Core.Path.{◌∙◌}
use Rattle.layout.proofs.NumberLaws.{from_bytes}
use Rattle.layout.proofs.reading.four_at.Goals as goal

pub returns : goal.returns
returns c = c.from_be_bytes.ensures ∙ from_bytes c.args.bytes.now c.args.at
