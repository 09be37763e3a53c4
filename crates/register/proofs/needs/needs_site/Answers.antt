use Rattle.model.specs.Needs.{any_of, span_on, station_on}
use Rattle.register.proofs.needs.needs_site.Goals as goal
use Rattle.std.proofs.Common.{sym, ap, ◌∙◌, ◌||◌, rules}
use Rattle.tables.specs.Rows.{used_rows}

pub returns-then-span : goal.returns-then-span
returns-then-span c =
    let k = c.args.key.now in
    let rest = any_of (station_on k) (used_rows c.args.register.now.used.estimates c.args.tables.now.estimates.now) || any_of (station_on k) (used_rows c.args.register.now.used.aprioris c.args.tables.now.aprioris.now) in
    let span = c.any_used-span.ensures (span_on k) (record { each = λ x b h. search rules }) in
    c.if-span.true ∙ ap (λ b. b || rest) (sym c.if-span.true ∙ span)

pub returns-then-estimate : goal.returns-then-estimate
returns-then-estimate c =
    let k = c.args.key.now in
    let rest = any_of (station_on k) (used_rows c.args.register.now.used.aprioris c.args.tables.now.aprioris.now) in
    let span = c.any_used-span.ensures (span_on k) (record { each = λ x b h. search rules }) in
    let estimate = c.any_used-estimate.ensures (station_on k) (record { each = λ x b h. search rules }) in
    let first = ap (λ b. b || (any_of (station_on k) (used_rows c.args.register.now.used.estimates c.args.tables.now.estimates.now) || rest)) (sym c.if-span.false ∙ span) in
    c.if-estimate.true ∙ ap (λ b. b || rest) (sym c.if-estimate.true ∙ estimate) ∙ first

pub returns-else-estimate : goal.returns-else-estimate
returns-else-estimate c =
    let k = c.args.key.now in
    let rest = any_of (station_on k) (used_rows c.args.register.now.used.aprioris c.args.tables.now.aprioris.now) in
    let span = c.any_used-span.ensures (span_on k) (record { each = λ x b h. search rules }) in
    let estimate = c.any_used-estimate.ensures (station_on k) (record { each = λ x b h. search rules }) in
    let apriori = c.any_used-apriori.ensures (station_on k) (record { each = λ x b h. search rules }) in
    let first = ap (λ b. b || (any_of (station_on k) (used_rows c.args.register.now.used.estimates c.args.tables.now.estimates.now) || rest)) (sym c.if-span.false ∙ span) in
    apriori ∙ ap (λ b. b || rest) (sym c.if-estimate.false ∙ estimate) ∙ first
