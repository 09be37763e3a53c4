use Rattle.model.proofs.SpanSteps.{span_put_does, span_put_lacking}
use Rattle.register.proofs.Carried.{carried, slices_refl}
use Rattle.register.proofs.edits.put_span.Goals as goal
use Rattle.register.specs.Views.{view}
use Rattle.model.specs.Steps.{span_rows}
use Rattle.std.proofs.Common.{sym, refl, ap₂}

pub returns-then-not-has_site : goal.returns-then-not-has_site
returns-then-not-has_site c =
    let x = view c.args.register.now c.args.tables.now in
    (span_put_lacking c.args.span x (sym c.if-not-has_site.ensures), slices_refl c.args.tables.now)

pub returns : goal.returns
returns c =
    let x = view c.args.register.now c.args.tables.now in
    let done = c.put_row.ensures in
    let there = sym c.if-not-has_site.ensures in
    (carried _ x _ _ _ _ done.answer (ap₂ (span_rows x) done.rows done.used) (span_put_does c.args.span c.requires x there), record { sites = refl; spans = refl; estimates = refl; aprioris = refl; cells = refl; row = refl })
