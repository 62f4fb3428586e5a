-- `words::store::Text::put_below_hundred` meets its contract. Assumes nothing.
use native.Mathlib.Omega.{arith}
use Rattle.words.proofs.DecimalLaws.{decimal_below, decimal_two}
use Rattle.words.proofs.store.Text.put_below_hundred.Goals as goal

pub put-requires : goal.put-requires
put-requires c = rw (decimal_below c.args.n (omega arith)) at c.requires.0

pub returns-then-n-lt-TWO_DIGITS : goal.returns-then-n-lt-TWO_DIGITS
returns-then-n-lt-TWO_DIGITS c = rw (decimal_below c.args.n (omega arith)) c.put.ensures

pub put_two-requires : goal.put_two-requires
put_two-requires c = rw (decimal_two c.args.n (omega arith) (omega arith)) at c.requires

pub returns : goal.returns
returns c = rw (decimal_two c.args.n (omega arith) (omega arith)) c.put_two.ensures
