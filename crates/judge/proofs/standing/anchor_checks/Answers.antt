-- `judge::standing::anchor_checks` meets its contract. Assumes nothing.
use mathlib.Core.Path.{refl, sym, ◌∙◌}
use native.Mathlib.Omega.{arith}
use mir.Syntax.{w64}
use mir.Val.{SFits}
use mir.Facts.{to_z-of_z}
use Rattle.std.proofs.lemmas.Option.{same_Some}
use Rattle.fields.proofs.BoltLaws.{charted}
use Rattle.stability.proofs.Bounds.{larger_most}
use Rattle.flaws.proofs.FieldLaws.{tank_in_lem, site_in_lem}
use Rattle.claims.specs.Report.{anchor_checks}
use Rattle.claims.proofs.FigureLaws.{wind_weight_in, quake_weight_in, anchored, pull_in}
use Rattle.judge.proofs.standing.anchor_checks.Goals as goal

pub pull-wind_pull-requires : goal.pull-wind_pull-requires
pull-wind_pull-requires c =
    let v = c.requires.valid in
    let a = anchored _ v.tank _ v.anchors c.requires.number_nonzero in
    record {
      moment_le_most_moment = c.requires.moment_le_most_moment;
      weight_in = rw c.whole-wind_weight.ensures (wind_weight_in _ v.tank);
      circle_nonzero = a.circle_above;
      circle_in = a.circle;
      count_in = a.number;
    }

pub reduced-quake_weight-requires : goal.reduced-quake_weight-requires
reduced-quake_weight-requires c =
    let v = c.requires.valid in
    omega (arith, (tank_in_lem _ v.tank).weight, (site_in_lem _ v.site).vertical)

pub pull-quake_pull-requires : goal.pull-quake_pull-requires
pull-quake_pull-requires c =
    let v = c.requires.valid in
    let a = anchored _ v.tank _ v.anchors c.requires.number_nonzero in
    record {
      moment_le_most_moment = (site_in_lem _ v.site).moment.1;
      weight_in = rw c.reduced-quake_weight.ensures (quake_weight_in _ v.tank c.args.e.now.site);
      circle_nonzero = a.circle_above;
      circle_in = a.circle;
      count_in = a.number;
    }

pub spacing-spacing-requires : goal.spacing-spacing-requires
spacing-spacing-requires c =
    let v = c.requires.valid in
    (anchored _ v.tank _ v.anchors c.requires.number_nonzero).number

pub unwrap-area-requires : goal.unwrap-area-requires
unwrap-area-requires c =
    let v = c.requires.valid in
    rw (charted c.stress_area.ensures (anchored _ v.tank _ v.anchors c.requires.number_nonzero).size) refl

pub strength-strength-requires : goal.strength-strength-requires
strength-strength-requires c =
    let wf : SFits w64 c.pull-wind_pull.result = record { sfits = c.pull-wind_pull.type_inv } in
    let qf : SFits w64 c.pull-quake_pull.result = record { sfits = c.pull-quake_pull.type_inv } in
    let v = c.requires.valid in
    let a = anchored _ v.tank _ v.anchors c.requires.number_nonzero in
    let area = same_Some _ _ (sym c.unwrap-area.ensures ∙ charted c.stress_area.ensures a.size) in
    let k = pull_in _ v.tank c.args.e.now.anchors v.anchors c.requires.number_nonzero in
    record {
      pull_le_most_pull = rw (c.larger-larger.ensures, to_z-of_z wf, to_z-of_z qf, c.pull-wind_pull.ensures, c.pull-quake_pull.ensures, c.whole-wind_weight.ensures, c.reduced-quake_weight.ensures)
          (larger_most _ _
          (k _ c.args.moment (wind_weight_in _ v.tank) c.requires.moment_le_most_moment)
          (k _ c.args.e.now.site.moment (quake_weight_in _ v.tank c.args.e.now.site) (site_in_lem _ v.site).moment.1));
      area_nonzero = rw area a.area_above;
    }

pub returns : goal.returns
unfolding anchor_checks
returns c =
    let wf : SFits w64 c.pull-wind_pull.result = record { sfits = c.pull-wind_pull.type_inv } in
    let qf : SFits w64 c.pull-quake_pull.result = record { sfits = c.pull-quake_pull.type_inv } in
    let v = c.requires.valid in
    let area = same_Some _ _ (sym c.unwrap-area.ensures ∙ charted c.stress_area.ensures (anchored _ v.tank _ v.anchors c.requires.number_nonzero).size) in
    rw (c.strength-strength.ensures.value, area, c.larger-larger.ensures, to_z-of_z wf, to_z-of_z qf, c.spacing-spacing.ensures.value, c.pull-quake_pull.ensures, c.reduced-quake_weight.ensures, c.pull-wind_pull.ensures, c.whole-wind_weight.ensures)
