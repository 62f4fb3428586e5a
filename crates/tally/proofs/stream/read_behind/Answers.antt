-- `tally::stream::read_behind` meets its contract. Assumes nothing.
use native.Mathlib.Omega.{arith}
use Rattle.std.proofs.Common.{rules}
use Rattle.tally.proofs.StreamLaws.{read_behind}
use Rattle.tally.proofs.stream.read_behind.Goals as goal

pub returns-clause-behind : goal.returns-clause-behind
returns-clause-behind g c = read_behind _ _ c.args.held c.args.buffer.now c.read.new.buf _ c.read.result (omega arith) c.read.ensures.bound c.read.ensures.bytes (search rules)
