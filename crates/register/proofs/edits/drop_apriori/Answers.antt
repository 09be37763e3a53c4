use Rattle.model.proofs.AprioriSteps.{apriori_drop_does}
use Rattle.register.proofs.Carried.{carried}
use Rattle.register.proofs.edits.drop_apriori.Goals as goal
use Rattle.register.specs.Views.{view}
use Rattle.model.specs.Steps.{apriori_rows}
use Rattle.std.proofs.Common.{refl, ap₂}

pub returns : goal.returns
returns c =
    let x = view c.args.register.now c.args.tables.now in
    let done = c.drop_row.ensures in
    (carried _ x _ _ _ _ done.answer (ap₂ (apriori_rows x) done.rows done.used) (apriori_drop_does c.args.apriori.now x), record { sites = refl; spans = refl; estimates = refl; aprioris = refl; cells = refl; row = refl })
