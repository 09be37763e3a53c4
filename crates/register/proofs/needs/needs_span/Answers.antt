use Rattle.model.specs.Needs.{any_of, span_beside, station_at}
use Rattle.register.proofs.needs.needs_span.Goals as goal
use Rattle.std.proofs.Common.{not, sym, ap, ◌∙◌, ◌||◌, ◌&&◌, rules}
use Rattle.tables.specs.Rows.{used_rows}

pub returns-then-estimate : goal.returns-then-estimate
returns-then-estimate c =
    let k = c.args.span.now.key.at in
    let rest = any_of (station_at k) (used_rows c.args.register.now.used.aprioris c.args.tables.now.aprioris.now) in
    let another = c.any_used-another.ensures (span_beside c.args.span.now) (record { each = λ x b h. search rules }) in
    let estimate = c.any_used-estimate.ensures (station_at k) (record { each = λ x b h. search rules }) in
    let first = ap (λ b. b && (any_of (station_at k) (used_rows c.args.register.now.used.estimates c.args.tables.now.estimates.now) || rest)) (ap not (sym c.if-not-another.true ∙ another)) in
    c.if-estimate.true ∙ ap (λ b. b || rest) (sym c.if-estimate.true ∙ estimate) ∙ first

pub returns-else-estimate : goal.returns-else-estimate
returns-else-estimate c =
    let k = c.args.span.now.key.at in
    let rest = any_of (station_at k) (used_rows c.args.register.now.used.aprioris c.args.tables.now.aprioris.now) in
    let another = c.any_used-another.ensures (span_beside c.args.span.now) (record { each = λ x b h. search rules }) in
    let estimate = c.any_used-estimate.ensures (station_at k) (record { each = λ x b h. search rules }) in
    let apriori = c.any_used-apriori.ensures (station_at k) (record { each = λ x b h. search rules }) in
    let first = ap (λ b. b && (any_of (station_at k) (used_rows c.args.register.now.used.estimates c.args.tables.now.estimates.now) || rest)) (ap not (sym c.if-not-another.true ∙ another)) in
    apriori ∙ ap (λ b. b || rest) (sym c.if-estimate.false ∙ estimate) ∙ first

pub returns-else-not-another : goal.returns-else-not-another
returns-else-not-another c =
    let k = c.args.span.now.key.at in
    let rest = any_of (station_at k) (used_rows c.args.register.now.used.estimates c.args.tables.now.estimates.now) || any_of (station_at k) (used_rows c.args.register.now.used.aprioris c.args.tables.now.aprioris.now) in
    let another = c.any_used-another.ensures (span_beside c.args.span.now) (record { each = λ x b h. search rules }) in
    ap not c.if-not-another.false ∙ ap (λ b. b && rest) (ap not (sym c.if-not-another.false ∙ another))
