-- `lines::storing::put_pulls` meets its contract. Assumes nothing.
use Rattle.std.proofs.Common.{rules}
use Rattle.words.proofs.DecimalLaws.{signed_same}
use Rattle.words.proofs.StoreLaws.{then}
use Rattle.lines.proofs.storing.put_pulls.Goals as goal

pub returns : goal.returns
returns c =
    let wind = signed_same c.args.c.wind_pull (search rules) c.put_signed.ensures in
    let quake = signed_same c.args.c.quake_pull (search rules) c.put_signed-2.ensures in
    then c.put.ensures (then wind (then quake c.put-2.ensures))
