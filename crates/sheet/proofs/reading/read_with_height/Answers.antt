-- `sheet::reading::read_with_height` meets its contract. Assumes nothing.
use mathlib.Core.Path.{◌∙◌, ap, sym, subst}
use Rattle.entries.specs.Sheet.{empty_sheet}
use Rattle.fields.proofs.OrderLaws.{passed_on, reply_given, reply_refused}
use Rattle.fields.specs.Order.{first_of}
use Rattle.layout.specs.Header.{version_in, read_order, Header}
use Rattle.layout.proofs.HeaderLaws.{header}
use Rattle.sheet.specs.Steps.{unless, in_turn}
use Rattle.sheet.specs.Reading.{steps_in, read_in, with_height}
use Rattle.sheet.proofs.AnswerLaws.{turned, height_clauses}
use Rattle.sheet.proofs.reading.read_with_height.Goals as goal

pub returns-in_err-version : goal.returns-in_err-version
unfolding read_in
returns-in_err-version c =
    let b = c.args.bytes.now in
    let e = (reply_refused (version_in b) (first_of (read_order b)) _).0 (sym c.version_in.ensures.value ∙ c.in_err-version.was) in
    let r = height_clauses b (passed_on _ _ c.from_residual.ensures.1 ∙ ap (λ a. with_height (unless a (turned b))) (sym e)) in
    record { value = r.0; code = r.1 }

pub read_entries-requires : goal.read_entries-requires
read_entries-requires c =
    let b = c.args.bytes.now in
    let g = reply_given (version_in b) (first_of (read_order b)) (sym c.version_in.ensures.value ∙ c.in_ok-version.was) in
    subst (λ v. Header v b) (sym g.1) (header b g.0)

pub returns : goal.returns
unfolding read_in
returns c =
    let b = c.args.bytes.now in
    let g = reply_given (version_in b) (first_of (read_order b)) (sym c.version_in.ensures.value ∙ c.in_ok-version.was) in
    let r = height_clauses b (c.read_entries.ensures
    ∙ ap (λ v. with_height (in_turn v empty_sheet (steps_in v b))) g.1
    ∙ ap (λ a. with_height (unless a (turned b))) (sym g.0)) in
    record { value = r.0; code = r.1 }
