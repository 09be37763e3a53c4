use Rattle.model.proofs.EstimateSteps.{cell_set_absent_first, cell_set_absent_second, cell_set_does}
use Rattle.register.proofs.Carried.{carried, slices_refl}
use Rattle.register.proofs.edits.set_cell_of.Goals as goal
use Rattle.register.specs.Views.{view}
use Rattle.model.specs.Steps.{cell_rows}
use Rattle.std.proofs.Common.{◌≡◌, Err, sym, refl, ap, ◌∙◌, rules}

pub returns-in_err-i : goal.returns-in_err-i
returns-in_err-i c =
    let x = view c.args.register.now c.args.tables.now in
    let fault = c.in_err-i.field-0.0 in
    let e : c.from_residual.result ≡ Err fault = search rules in
    let absent = cell_set_absent_first c.args.first.now c.args.second.now c.args.value x fault (sym c.rank_of.ensures ∙ c.in_err-i.was) in
    (carried _ x _ _ _ _ e refl absent, slices_refl c.args.tables.now)

pub returns-in_err-j : goal.returns-in_err-j
returns-in_err-j c =
    let x = view c.args.register.now c.args.tables.now in
    let i = c.in_ok-i.i in
    let fault = c.in_err-j.field-0.0 in
    let e : c.from_residual-in_err-j.result ≡ Err fault = search rules in
    let there = sym c.rank_of.ensures ∙ c.in_ok-i.was in
    let absent = cell_set_absent_second c.args.first.now c.args.second.now c.args.value x i fault there (sym c.rank_of-2.ensures ∙ c.in_err-j.was) in
    (carried _ x _ _ _ _ e refl absent, slices_refl c.args.tables.now)

pub returns : goal.returns
returns c =
    let x = view c.args.register.now c.args.tables.now in
    let first = sym c.rank_of.ensures ∙ c.in_ok-i.was in
    let second = sym c.rank_of-2.ensures ∙ c.in_ok-j.was in
    let does = cell_set_does c.args.first.now c.args.second.now c.args.value c.requires x c.in_ok-i.i c.in_ok-j.j first second in
    (carried _ x _ _ _ _ c.set_cell.ensures.answer (ap (cell_rows x) c.set_cell.ensures.list) does, record { sites = refl; spans = refl; estimates = refl; aprioris = refl; cells = refl; row = refl })
