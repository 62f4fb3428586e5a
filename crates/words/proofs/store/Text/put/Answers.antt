-- `words::store::Text::put` meets its contract. Assumes nothing.
use native.Mathlib.Omega.{arith}
use Rattle.words.proofs.StoreLaws.{stored_more}
use Rattle.words.proofs.store.Text.put.Goals as goal

pub loop-i-preserved : goal.loop-i-preserved
loop-i-preserved c = stored_more c.args.self.out.now c.args.letters.now c.args.self.at c.loop-i.i (omega arith) c.loop-i.invariant
