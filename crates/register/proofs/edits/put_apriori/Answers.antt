use Rattle.model.proofs.AprioriSteps.{apriori_put_does, apriori_put_lacking}
use Rattle.register.proofs.Carried.{carried, slices_refl}
use Rattle.register.proofs.edits.put_apriori.Goals as goal
use Rattle.register.specs.Views.{view}
use Rattle.model.specs.Steps.{apriori_rows}
use Rattle.std.proofs.Common.{sym, refl, ap₂}

pub returns-then-not-is_served : goal.returns-then-not-is_served
returns-then-not-is_served c =
    let x = view c.args.register.now c.args.tables.now in
    (apriori_put_lacking c.args.apriori x (sym c.if-not-is_served.ensures), slices_refl c.args.tables.now)

pub returns : goal.returns
returns c =
    let x = view c.args.register.now c.args.tables.now in
    let done = c.put_row.ensures in
    (carried _ x _ _ _ _ done.answer (ap₂ (apriori_rows x) done.rows done.used) (apriori_put_does c.args.apriori c.requires x (sym c.if-not-is_served.ensures)), record { sites = refl; spans = refl; estimates = refl; aprioris = refl; cells = refl; row = refl })
