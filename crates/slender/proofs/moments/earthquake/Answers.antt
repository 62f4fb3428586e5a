-- `slender::moments::earthquake` meets its contract. Assumes nothing.
use Rattle.slender.specs.Moments.{moments_squared, moment_of}
use Rattle.slender.proofs.MomentLaws.{moment_fits}
use Rattle.slender.proofs.moments.earthquake.Goals as goal

pub overflow_cast-result : goal.overflow_cast-result
unfolding moment_of moments_squared
overflow_cast-result c =
    let r = c.requires in
    record { fits = rw (c.root_up.ensures, c.impulsive-i.ensures.value, c.convective-c.ensures.value) (moment_fits c.args.tank r.tank_in c.args.ground r.accelerations_in) }

pub returns : goal.returns
unfolding moment_of moments_squared
returns c = rw (c.root_up.ensures, c.impulsive-i.ensures.value, c.convective-c.ensures.value)
