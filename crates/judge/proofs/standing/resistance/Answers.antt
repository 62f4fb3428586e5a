-- `judge::standing::resistance` meets its contract. Assumes nothing.
use native.Mathlib.Omega.{arith}
use Rattle.flaws.proofs.FieldLaws.{tank_in_lem, site_in_lem}
use Rattle.claims.specs.Figures.{resistance_on}
use Rattle.claims.proofs.FigureLaws.{net_most, yield_in, shell_in, bottom_in}
use Rattle.judge.proofs.standing.resistance.Goals as goal

pub shell_weight-shell-requires : goal.shell_weight-shell-requires
shell_weight-shell-requires c = let t = tank_in_lem c.args.e.now.tank c.requires.tank in
    record { weight_in = t.weight; vertical_in = (site_in_lem c.args.e.now.site c.requires.site).vertical; diameter_in = t.diameter }

pub overflow_sub-net : goal.overflow_sub-net
overflow_sub-net c = omega (arith, (tank_in_lem c.args.e.now.tank c.requires.tank).net)

pub bottom_weight-bottom-requires : goal.bottom_weight-bottom-requires
bottom_weight-bottom-requires c = let t = tank_in_lem c.args.e.now.tank c.requires.tank in
    record { plate_le_most_plate = net_most c.args.e.now.tank c.requires.tank; yield_stress_le_most_yield = rw c.root_yield-root_yield.ensures (yield_in c.args.e.now.tank c.requires.tank); level_in = t.level; diameter_in = t.diameter; gravity_in = t.gravity }

pub resistance-requires : goal.resistance-requires
resistance-requires c = record { diameter_in = (tank_in_lem c.args.e.now.tank c.requires.tank).diameter; shell_le_most_shell = rw c.shell_weight-shell.ensures (shell_in c.args.e.now.tank c.requires.tank c.args.e.now.site c.requires.site); bottom_le_most_bottom = rw (c.bottom_weight-bottom.ensures, c.root_yield-root_yield.ensures) (bottom_in c.args.e.now.tank c.requires.tank c.args.e.now.site c.requires.site) }

pub returns : goal.returns
unfolding resistance_on
returns c = rw (← c.root_yield-root_yield.ensures, ← c.shell_weight-shell.ensures, ← c.bottom_weight-bottom.ensures) c.resistance.ensures
