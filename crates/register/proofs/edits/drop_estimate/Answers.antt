use Rattle.model.proofs.EstimateSteps.{estimate_drop_absent, estimate_drop_does, estimate_drop_unclosed}
use Rattle.register.proofs.Carried.{carried, slices_refl}
use Rattle.register.proofs.edits.drop_estimate.Goals as goal
use Rattle.register.specs.Views.{view}
use Rattle.model.specs.Steps.{estimate_rows}
use Rattle.std.proofs.Common.{◌≡◌, is_ok, Err, sym, refl, ap, ◌∙◌, rules, ap₂}

pub returns-in_err-rank : goal.returns-in_err-rank
returns-in_err-rank c =
    let x = view c.args.register.now c.args.tables.now in
    let fault = c.in_err-rank.field-0.0 in
    let e : c.from_residual.result ≡ Err fault = search rules in
    let absent = estimate_drop_absent c.args.estimate.now x fault (sym c.rank_of.ensures ∙ c.in_err-rank.was) in
    (carried _ x _ _ _ _ e refl absent, slices_refl c.args.tables.now)

pub returns-in_err-close_at : goal.returns-in_err-close_at
returns-in_err-close_at c =
    let x = view c.args.register.now c.args.tables.now in
    let rank = c.in_ok-rank.rank in
    let fault = c.in_err-close_at.field-0.0 in
    let closed = c.close_at.ensures in
    let was = c.in_err-close_at.was in
    let e : c.from_residual-in_err-close_at.result ≡ Err fault = search rules in
    let unclosed = estimate_drop_unclosed c.args.estimate.now x rank fault (sym c.rank_of.ensures ∙ c.in_ok-rank.was) (sym closed.answer ∙ was) in
    (carried _ x _ _ _ _ e (closed.refused (ap is_ok was)) unclosed, closed.slices)

pub returns : goal.returns
returns c =
    let x = view c.args.register.now c.args.tables.now in
    let y = view c.args.register.now c.close_at.new.tables in
    let rank = c.in_ok-rank.rank in
    let closed = c.close_at.ensures in
    let done = c.drop_row.ensures in
    let there = sym c.rank_of.ensures ∙ c.in_ok-rank.was in
    let does = estimate_drop_does c.args.estimate.now x rank there (sym closed.answer ∙ c.in_ok-close_at.was) y closed.state refl in
    let s = closed.slices in
    (carried _ x _ _ _ _ done.answer (ap₂ (estimate_rows y) done.rows done.used) does, record { sites = s.sites; spans = s.spans; estimates = s.estimates; aprioris = s.aprioris; cells = s.cells; row = s.row })
