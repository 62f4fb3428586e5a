-- `judge::standing::self_checks` meets its contract. Assumes nothing.
use Rattle.flaws.proofs.FieldLaws.{tank_in_lem}
use Rattle.claims.specs.Report.{self_checks}
use Rattle.claims.proofs.FigureLaws.{resistance_in, resistance_some}
use Rattle.judge.proofs.standing.self_checks.Goals as goal

pub self_wind-wind-requires : goal.self_wind-wind-requires
self_wind-wind-requires c = let t = tank_in_lem c.args.e.now.tank c.requires.valid.tank in
    record { moment_le_most_moment = c.requires.moment_le_most_moment; weight_in = t.weight; diameter_in = t.diameter }

pub uplift_of-uplift-requires : goal.uplift_of-uplift-requires
uplift_of-uplift-requires c = rw c.resistance-resistance.ensures (resistance_in c.args.e.now.tank c.requires.valid.tank c.args.e.now.site c.requires.valid.site)

pub check-quake-requires : goal.check-quake-requires
check-quake-requires c = rw c.resistance-resistance.ensures (record { resistance_nonzero = resistance_some c.args.e.now.tank c.requires.valid.tank c.args.e.now.site c.requires.valid.site; resistance_le_most_resistance = resistance_in c.args.e.now.tank c.requires.valid.tank c.args.e.now.site c.requires.valid.site })

pub returns : goal.returns
unfolding self_checks
returns c = rw (c.check-quake.ensures.value, c.uplift_of-uplift.ensures.value, c.resistance-resistance.ensures, c.self_wind-wind.ensures.value)
