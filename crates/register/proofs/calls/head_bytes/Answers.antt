use Rattle.model.proofs.Handing.{head_handed}
use Rattle.model.proofs.HeadSteps.{head_set_does}
use Rattle.model.proofs.Steps.{does_then_ok, obeys_does, obeys_strange}
use Rattle.model.specs.Edits.{SetHead, head_named, with_head}
use Rattle.register.proofs.calls.head_bytes.Goals as goal
use Rattle.register.specs.Views.{view}
use Rattle.std.proofs.Common.{Some, Ok, sym, ◌∙◌}

pub returns-then-not-is_own : goal.returns-then-not-is_own
returns-then-not-is_own c =
    let x = view c.args.register.now c.args.tables.now in
    obeys_strange (SetHead c.args.bytes.now c.args.kind) x (sym c.if-not-is_own.ensures)

pub returns : goal.returns
returns c =
    let x = view c.args.register.now c.args.tables.now in
    let bs = c.args.bytes.now in
    let kind = c.args.kind in
    let head = c.in_ok-head_of.field-0 in
    let e = sym c.head_of.ensures ∙ c.in_ok-head_of.was in
    let set = head_set_does head.header (head_handed bs kind head e) head.kind x in
    obeys_does (SetHead bs kind) x _ _ (sym c.if-not-is_own.ensures) (does_then_ok (head_named bs kind) (λ P s h. Ok (with_head s (Some h))) head x _ _ e set)
