-- `rules::hoop::check` meets its contract. Assumes nothing.
use Rattle.rules.specs.Hoop.{course_verdict}
use Rattle.rules.proofs.hoop.check.Goals as goal

pub returns : goal.returns
unfolding course_verdict
returns c = c.verdict_of.ensures
