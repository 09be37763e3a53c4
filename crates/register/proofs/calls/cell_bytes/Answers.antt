use Rattle.model.proofs.Steps.{obeys_does, obeys_strange}
use Rattle.model.specs.Edits.{SetCell}
use Rattle.register.proofs.Carried.{slices_refl}
use Rattle.register.proofs.calls.cell_bytes.Goals as goal
use Rattle.register.specs.Views.{view}
use Rattle.std.proofs.Common.{sym}

pub returns-then-not-is_own : goal.returns-then-not-is_own
returns-then-not-is_own c =
    let x = view c.args.register.now c.args.tables.now in
    let call = SetCell c.args.first.now c.args.second.now c.args.text.now in
    record { obeys = obeys_strange call x (sym c.if-not-is_own.ensures); slices = slices_refl c.args.tables.now }

pub returns : goal.returns
returns c =
    let x = view c.args.register.now c.args.tables.now in
    let call = SetCell c.args.first.now c.args.second.now c.args.text.now in
    let done = c.set_cell_named.ensures in
    record { obeys = obeys_does call x _ _ (sym c.if-not-is_own.ensures) done.0; slices = done.1 }
