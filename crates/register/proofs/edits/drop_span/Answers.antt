use Rattle.model.proofs.SpanSteps.{span_drop_absent, span_drop_does, span_drop_needed}
use Rattle.register.proofs.Carried.{carried, slices_refl}
use Rattle.register.proofs.edits.drop_span.Goals as goal
use Rattle.register.specs.Views.{view}
use Rattle.model.specs.Steps.{span_rows}
use Rattle.std.proofs.Common.{sym, refl, ap₂}

pub returns-then-not-has_span_record : goal.returns-then-not-has_span_record
returns-then-not-has_span_record c =
    let x = view c.args.register.now c.args.tables.now in
    (span_drop_absent c.args.span.now x (sym c.if-not-has_span_record.ensures), slices_refl c.args.tables.now)

pub returns-then-needs_span : goal.returns-then-needs_span
returns-then-needs_span c =
    let x = view c.args.register.now c.args.tables.now in
    (span_drop_needed c.args.span.now x (sym c.if-not-has_span_record.ensures) (sym c.if-needs_span.ensures), slices_refl c.args.tables.now)

pub returns : goal.returns
returns c =
    let x = view c.args.register.now c.args.tables.now in
    let done = c.drop_row.ensures in
    let free = sym c.if-needs_span.ensures in
    let there = sym c.if-not-has_span_record.ensures in
    (carried _ x _ _ _ _ done.answer (ap₂ (span_rows x) done.rows done.used) (span_drop_does c.args.span.now x free there), record { sites = refl; spans = refl; estimates = refl; aprioris = refl; cells = refl; row = refl })
