-- `tally_text::storing::put_least` meets its contract. Assumes nothing.
use Rattle.std.proofs.Common.{rules}
use Rattle.words.proofs.DecimalLaws.{signed_same}
use Rattle.words.proofs.StoreLaws.{then}
use Rattle.tally_text.proofs.storing.put_least.Goals as goal

pub returns-in-Some : goal.returns-in-Some
returns-in-Some c =
    rw c.in-Some.is (then c.put-name.ensures (then (signed_same c.in-Some.d (search rules) c.put_signed.ensures) c.put.ensures))
