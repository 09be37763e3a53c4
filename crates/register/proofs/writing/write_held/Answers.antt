use Rattle.refusals.specs.declared.Fault.TheVariants.{MediumTooSmall}
use Rattle.register.proofs.Written.{write_granted, write_refused, write_strange}
use Rattle.register.proofs.writing.write_held.Goals as goal
use Rattle.register.specs.Views.{view}
use Rattle.std.proofs.Common.{◌≡◌, Some, Err, sym, refl, rules}

pub returns-then-not-is_own : goal.returns-then-not-is_own
returns-then-not-is_own g c =
    let x = view c.args.register.now c.args.tables.now in
    record { writes = write_strange x _ _ (sym c.if-not-is_own.ensures); kept = refl }

pub returns : goal.returns
returns g c =
    let x = view c.args.register.now c.args.tables.now in
    let held : c.args.register.now.head ≡ Some c.in_ok-head.head = search rules in
    let done = c.write_used.ensures in
    record { writes = write_granted x c.in_ok-head.head _ _ _ _ _ (sym c.if-not-is_own.ensures) held c.in_ok-write_used.was done.copies; kept = done.kept }

pub returns-in_err-write_used : goal.returns-in_err-write_used
returns-in_err-write_used g c =
    let x = view c.args.register.now c.args.tables.now in
    let held : c.args.register.now.head ≡ Some c.in_ok-head.head = search rules in
    let done = c.write_used.ensures in
    let told : c.from_residual-in_err-write_used.result ≡ Err MediumTooSmall = search rules in
    record { writes = write_refused x c.in_ok-head.head _ _ _ _ _ _ _ (sym c.if-not-is_own.ensures) held c.in_err-write_used.was told done.copies; kept = done.kept }
