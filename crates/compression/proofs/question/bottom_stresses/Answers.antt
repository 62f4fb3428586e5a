-- `compression::question::bottom_stresses` meets its contract. Assumes nothing.
use native.Mathlib.Omega.{arith}
use Rattle.flaws.proofs.FieldLaws.{tank_in_lem, site_in_lem}
use Rattle.compression.specs.Compression.{coefficient_on}
use Rattle.compression.proofs.CompressionLaws.{bottom_in, net_in, worked_out}
use Rattle.compression.proofs.question.bottom_stresses.Goals as goal

pub overflow_sub-shell : goal.overflow_sub-shell
overflow_sub-shell c = omega (arith, (bottom_in c.args.e c.requires).net)

pub invariant_of-shell : goal.invariant_of-shell
invariant_of-shell c =
    record { diameter_in = (tank_in_lem c.args.e.tank c.requires.tank).diameter; net_plate = net_in c.args.e c.requires }

pub coefficient-coefficient-requires : goal.coefficient-coefficient-requires
coefficient-coefficient-requires c =
    let t = tank_in_lem c.args.e.tank c.requires.tank in
    record { level_in = t.level; gravity_in = t.gravity }

pub compression-stress-requires : goal.compression-stress-requires
compression-stress-requires c =
    let site = site_in_lem c.args.e.site c.requires.site in
    record { weight_in = (tank_in_lem c.args.e.tank c.requires.tank).weight; vertical_in = site.vertical; moment_in = site.moment }

pub returns : goal.returns
unfolding coefficient_on
returns c = worked_out c.args.e c.compression-stress.ensures c.coefficient-coefficient.ensures.value c.allowed-allowed.ensures
