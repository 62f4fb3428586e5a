-- `tally::tally::Tally::with_report` meets its contract. Assumes nothing.
use mir.Syntax.{w64}
use mir.Val.{SFits}
use Rattle.std.proofs.Common.{rules}
use mir.Facts.{to_z-of_z}
use Rattle.tally.proofs.PartLaws.{sound_more, short_more}
use Rattle.tally.proofs.tally.Tally.with_report.Goals as goal

pub returns-in-Sound : goal.returns-in-Sound
returns-in-Sound c =
    let f : SFits w64 c.with_lines-t.result.sum = search rules in
    rw (to_z-of_z f) (sound_more c.args.self c.args.r.now c.with_lines-t.ensures c.in-Sound.is)

pub returns-in-Short : goal.returns-in-Short
returns-in-Short c =
    let f : SFits w64 c.with_lines-t.result.sum = search rules in
    rw (to_z-of_z f) (short_more c.args.self c.args.r.now c.with_lines-t.ensures c.in-Short.is)
