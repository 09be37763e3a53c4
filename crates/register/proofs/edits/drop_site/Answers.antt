use Rattle.model.proofs.SiteSteps.{site_drop_absent, site_drop_does, site_drop_needed}
use Rattle.register.proofs.Carried.{carried, slices_refl}
use Rattle.register.proofs.edits.drop_site.Goals as goal
use Rattle.register.specs.Views.{view}
use Rattle.model.specs.Steps.{site_rows}
use Rattle.std.proofs.Common.{sym, refl, ap₂}

pub returns-then-not-has_site : goal.returns-then-not-has_site
returns-then-not-has_site c =
    let x = view c.args.register.now c.args.tables.now in
    (site_drop_absent c.args.site.now x (sym c.if-not-has_site.ensures), slices_refl c.args.tables.now)

pub returns-then-needs_site : goal.returns-then-needs_site
returns-then-needs_site c =
    let x = view c.args.register.now c.args.tables.now in
    (site_drop_needed c.args.site.now x (sym c.if-not-has_site.ensures) (sym c.if-needs_site.ensures), slices_refl c.args.tables.now)

pub returns : goal.returns
returns c =
    let x = view c.args.register.now c.args.tables.now in
    let done = c.drop_row.ensures in
    let free = sym c.if-needs_site.ensures in
    let there = sym c.if-not-has_site.ensures in
    (carried _ x _ _ _ _ done.answer (ap₂ (site_rows x) done.rows done.used) (site_drop_does c.args.site.now x free there), record { sites = refl; spans = refl; estimates = refl; aprioris = refl; cells = refl; row = refl })
