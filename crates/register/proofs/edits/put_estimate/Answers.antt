use Rattle.model.proofs.EstimateSteps.{estimate_put_does, estimate_put_full, estimate_put_lacking}
use Rattle.register.proofs.Carried.{carried, slices_refl}
use Rattle.register.proofs.edits.put_estimate.Goals as goal
use Rattle.register.specs.Views.{view}
use Rattle.model.specs.Steps.{open_answer, rank_opened, estimate_rows}
use Rattle.std.proofs.Common.{◌≡◌, is_ok, Err, sym, refl, ap, ◌∙◌, rules, ap₂}

pub returns-then-not-is_served : goal.returns-then-not-is_served
returns-then-not-is_served c =
    let x = view c.args.register.now c.args.tables.now in
    (estimate_put_lacking c.args.estimate x (sym c.if-not-is_served.ensures), slices_refl c.args.tables.now)

pub returns-in_err-open_for : goal.returns-in_err-open_for
returns-in_err-open_for c =
    let x = view c.args.register.now c.args.tables.now in
    let fault = c.in_err-open_for.field-0.0 in
    let opened = c.open_for.ensures in
    let was = c.in_err-open_for.was in
    let e : c.from_residual.result ≡ Err fault = search rules in
    let full = estimate_put_full c.args.estimate x fault (sym c.if-not-is_served.ensures) (ap (λ p. open_answer p x) (sym c.place_of-place.ensures) ∙ sym opened.answer ∙ was) in
    (carried _ x _ _ _ _ e (opened.refused (ap is_ok was)) full, opened.slices)

pub returns : goal.returns
returns c =
    let x = view c.args.register.now c.args.tables.now in
    let y = view c.args.register.now c.open_for.new.tables in
    let opened = c.open_for.ensures in
    let done = c.put_row.ensures in
    let was = c.in_ok-open_for.was in
    let place = c.place_of-place.ensures in
    let grants = ap (λ p. open_answer p x) (sym place) ∙ sym opened.answer ∙ was in
    let does = estimate_put_does c.args.estimate c.requires x (sym c.if-not-is_served.ensures) grants y (λ l. opened.state l ∙ ap (λ p. rank_opened p x) place) refl in
    let s = opened.slices in
    (carried _ x _ _ _ _ done.answer (ap₂ (estimate_rows y) done.rows done.used) does, record { sites = s.sites; spans = s.spans; estimates = s.estimates; aprioris = s.aprioris; cells = s.cells; row = s.row })
