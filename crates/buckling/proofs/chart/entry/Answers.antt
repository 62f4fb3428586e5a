-- `buckling::chart::entry` meets its contract: the chart has its rule, by one test over all places. Assumes nothing.
use mathlib.Core.Path.{◌≡◌, ◌∙◌}
use Prim.Native.Nat.{ℕ, ◌<◌}
use native.Mathlib.Omega.{arith}
use lib.ListN.{get_or}
use Rattle.exact.proofs.Table.{holds_rule}
use Rattle.buckling.specs.declared.chart.TheConstants.{CHART}
use Rattle.buckling.specs.Coefficient.{entry_at}
use Rattle.buckling.proofs.chart.entry.Goals as goal

entry_at_lem : (i : ℕ) → i < 641 → get_or CHART i 0 ≡ entry_at i
unfolding entry_at
entry_at_lem = holds_rule CHART entry_at 641 tt

pub returns : goal.returns
returns c = c.from.ensures ∙ entry_at_lem c.args.place (omega arith)
