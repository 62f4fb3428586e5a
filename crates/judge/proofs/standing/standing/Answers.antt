-- `judge::standing::standing` meets its contract. Assumes nothing.
use borrow.Author.Tests.{eq-eqb, ne_eqb}
use Rattle.claims.specs.Report.{standing_of}
use Rattle.judge.proofs.standing.standing.Goals as goal

pub returns-then-e-eq0 : goal.returns-then-e-eq0
unfolding standing_of
returns-then-e-eq0 c = rw (eq-eqb _ _ c.if-e-eq0.true, c.self_checks.ensures)

pub returns : goal.returns
unfolding standing_of
returns c = rw (ne_eqb _ _ c.if-e-eq0.false, c.anchor_checks.ensures)
