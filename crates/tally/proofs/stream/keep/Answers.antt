-- `tally::stream::keep` meets its contract. Assumes nothing.
use Rattle.tally.proofs.CutLaws.{moved_front}
use Rattle.tally.proofs.stream.keep.Goals as goal

pub returns-clause-kept : goal.returns-clause-kept
returns-clause-kept c = moved_front c.args.buffer.now c.args.from c.args.end c.requires.order c.requires.inside c.copy_within.ensures.after
