-- `words::store::Text::put_small` meets its contract. Assumes nothing.
use native.Mathlib.Omega.{arith}
use Rattle.words.proofs.DecimalLaws.{hundreds_long}
use Rattle.words.proofs.StoreLaws.{two_more}
use Rattle.words.proofs.store.Text.put_small.Goals as goal

pub put_below_hundred-requires-2 : goal.put_below_hundred-requires-2
put_below_hundred-requires-2 c = (omega (arith, hundreds_long c.args.n (omega arith)), omega arith)

pub put_two-requires : goal.put_two-requires
put_two-requires c = (omega (arith, hundreds_long c.args.n (omega arith)), omega arith)

pub returns : goal.returns
returns c = two_more c.args.n (omega arith) c.put_below_hundred-2.ensures c.put_two.ensures
