-- `buckling::pressure::coefficient` meets its contract: what it hands back is the chart's entry. Assumes nothing.
use Rattle.buckling.specs.Coefficient.{coefficient_of}
use Rattle.buckling.proofs.CoefficientLaws.{coefficient_entry}
use Rattle.buckling.proofs.pressure.coefficient.Goals as goal

pub returns-clause-entry : goal.returns-clause-entry
unfolding coefficient_of
returns-clause-entry c = rw (c.entry.ensures, c.min.ensures) (coefficient_entry c.args.argument)
