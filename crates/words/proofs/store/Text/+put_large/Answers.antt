-- `words::store::Text::put_large` meets its contract; n falls at each call. Assumes nothing.
use native.Mathlib.Omega.{arith}
use Rattle.words.proofs.StoreLaws.{four_more}
use Rattle.words.proofs.DecimalLaws.{thousands_long}
use Rattle.words.proofs.store.Text.+put_large.Goals as goal

pub put_small-requires : goal.put_small-requires
put_small-requires t c = (omega (arith, thousands_long c.args.n c.requires.1), omega arith)

pub put_four-requires : goal.put_four-requires
put_four-requires t c = (omega (arith, thousands_long c.args.n c.requires.1), omega arith)

pub returns-then-n-lt100000000 : goal.returns-then-n-lt100000000
returns-then-n-lt100000000 t c = four_more c.args.n c.requires.1 c.put_small.ensures c.put_four.ensures

pub put_large-requires : goal.put_large-requires
put_large-requires t c = (omega arith, (omega (arith, thousands_long c.args.n c.requires.1), omega arith))

pub put_four-requires-2 : goal.put_four-requires-2
put_four-requires-2 t c = (omega (arith, thousands_long c.args.n c.requires.1), omega arith)

pub returns : goal.returns
returns t c = four_more c.args.n c.requires.1 c.put_large.ensures c.put_four-2.ensures
