-- `exact::root::root_up` meets its contract. Assumes nothing.
use Rattle.exact.proofs.RootLaws.{square_fits, root_cut, root_whole}
use Rattle.exact.proofs.root.root_up.Goals as goal

pub overflow_mul-n : goal.overflow_mul-n
overflow_mul-n c = record { fits = square_fits c.args.square c.ranges.square.fits _ c.greatest_root-n.ensures }

pub returns-then-n-square : goal.returns-then-n-square
returns-then-n-square c = root_cut c.args.square c.ranges.square.fits _ c.greatest_root-n.ensures c.if-n-square.true

pub returns : goal.returns
returns c = root_whole c.args.square c.ranges.square.fits _ c.greatest_root-n.ensures c.if-n-square.false
