-- `tally::progress::of_bytes` meets its contract. Assumes nothing.
use mathlib.Core.Path.{ap, ◌∙◌}
use mathlib.Core.Bool.{true}
use Rattle.tally.specs.Parts.{AfterPart, after_part}
use Rattle.tally.specs.declared.progress.Progress.{Progress}
use Rattle.tally.proofs.CutLaws.{all_tallied}
use Rattle.tally.proofs.progress.of_bytes.Goals as goal

pub returns-clause-value : goal.returns-clause-value
returns-clause-value c =
    let file = c.args.file.now in
    ap (λ (l : AfterPart). l.progress.tally) c.take.ensures.value
    ∙ ap (λ (p : Progress). (after_part p.room p.tally true file).progress.tally) c.start.ensures
    ∙ all_tallied file
