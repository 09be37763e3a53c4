use Rattle.model.proofs.Steps.{obeys_strange}
use Rattle.model.specs.Edits.{Drop}
use Rattle.register.proofs.Carried.{slices_refl}
use Rattle.register.proofs.calls.drop_bytes.Goals as goal
use Rattle.register.specs.Views.{view}
use Rattle.std.proofs.Common.{sym}

pub returns-then-not-is_own : goal.returns-then-not-is_own
returns-then-not-is_own c =
    let x = view c.args.register.now c.args.tables.now in
    record {
      obeys = obeys_strange (Drop c.args.sort c.args.bytes.now) x (sym c.if-not-is_own.ensures);
      slices = slices_refl c.args.tables.now;
    }
