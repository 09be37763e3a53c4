use Rattle.model.proofs.SiteSteps.{site_put_does}
use Rattle.register.proofs.Carried.{carried}
use Rattle.register.proofs.edits.put_site.Goals as goal
use Rattle.register.specs.Views.{view}
use Rattle.model.specs.Steps.{site_rows}
use Rattle.std.proofs.Common.{refl, ap₂}

pub returns : goal.returns
returns c =
    let x = view c.args.register.now c.args.tables.now in
    let done = c.put_row.ensures in
    (carried _ x _ _ _ _ done.answer (ap₂ (site_rows x) done.rows done.used) (site_put_does c.args.site c.requires x), record { sites = refl; spans = refl; estimates = refl; aprioris = refl; cells = refl; row = refl })
