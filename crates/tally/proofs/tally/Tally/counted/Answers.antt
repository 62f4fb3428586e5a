-- `tally::tally::Tally::counted` meets its contract. Assumes nothing.
use mir.Syntax.{w64}
use mir.Val.{SFits}
use Rattle.std.proofs.Common.{rules}
use mir.Facts.{to_z-of_z}
use Rattle.tally.proofs.PartLaws.{refused_more}
use Rattle.tally.proofs.tally.Tally.counted.Goals as goal

pub returns-in-Err : goal.returns-in-Err
returns-in-Err c =
    let f : SFits w64 c.args.self.sum = search rules in
    rw (to_z-of_z f) (refused_more c.args.self c.args.j.now c.in-Err.is)
