-- `sheet::reading::read_entries` meets its contract. Assumes nothing.
use mathlib.Core.Path.{refl, ◌∙◌, ap, sym}
use lib.ListN.{drop}
use Rattle.fields.proofs.OrderLaws.{passed_on}
use Rattle.layout.specs.Header.{site_in, anchors_in}
use Rattle.layout.proofs.HeaderLaws.{tail_part}
use Rattle.sheet.proofs.ReadLaws.{read_as, tank_refused, site_refused, anchors_refused, courses_follow}
use Rattle.sheet.proofs.reading.read_entries.Goals as goal

pub returns-in_err-tank_flaw : goal.returns-in_err-tank_flaw
returns-in_err-tank_flaw c =
    passed_on _ _ c.from_residual.ensures.1
    ∙ read_as c.args.version c.args.bytes.now refl c.tank_in-tank.ensures refl refl refl
    (tank_refused _ _ _ _ _ (sym c.tank_flaw.ensures.value ∙ c.in_err-tank_flaw.was))

pub returns-in_err-site_flaw : goal.returns-in_err-site_flaw
returns-in_err-site_flaw c =
    let b = c.args.bytes.now in
    passed_on _ _ c.from_residual-in_err-site_flaw.ensures.1
    ∙ read_as c.args.version b refl c.tank_in-tank.ensures (c.entry_at-site.ensures ∙ ap site_in (tail_part c.args.version b c.prefix.ensures)) refl refl
    (site_refused _ _ _ _ _ (sym c.tank_flaw.ensures.value ∙ c.in_ok-tank_flaw.was) (sym c.site_flaw.ensures.value ∙ c.in_err-site_flaw.was))

pub returns-in_err-anchors_flaw_in : goal.returns-in_err-anchors_flaw_in
returns-in_err-anchors_flaw_in c =
    let b = c.args.bytes.now in
    let tail = tail_part c.args.version b c.prefix.ensures in
    passed_on _ _ c.from_residual-in_err-anchors_flaw_in.ensures.1
    ∙ read_as c.args.version b refl c.tank_in-tank.ensures (c.entry_at-site.ensures ∙ ap site_in tail) (c.entry_at-anchors.ensures ∙ ap (λ l. anchors_in (drop 20 l)) tail) refl
    (anchors_refused _ _ _ _ _ (sym c.tank_flaw.ensures.value ∙ c.in_ok-tank_flaw.was) (sym c.site_flaw.ensures.value ∙ c.in_ok-site_flaw.was)
    (sym c.anchors_flaw_in.ensures ∙ c.in_err-anchors_flaw_in.was))

pub returns : goal.returns
returns c =
    let b = c.args.bytes.now in
    c.read_courses.ensures
    ∙ read_as c.args.version b (tail_part c.args.version b c.prefix.ensures) c.tank_in-tank.ensures c.entry_at-site.ensures c.entry_at-anchors.ensures c.count_in-n.ensures
    (courses_follow _ _ _ _ _ (sym c.tank_flaw.ensures.value ∙ c.in_ok-tank_flaw.was) (sym c.site_flaw.ensures.value ∙ c.in_ok-site_flaw.was)
    (sym c.anchors_flaw_in.ensures ∙ c.in_ok-anchors_flaw_in.was))
