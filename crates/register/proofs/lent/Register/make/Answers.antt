use Rattle.register.proofs.Made.{made}
use Rattle.register.proofs.lent.Register.make.Goals as goal
use Rattle.std.proofs.Common.{sym}

pub returns : goal.returns
returns c =
    made c.args.tables.now c.blank_tables.new.tables (sym c.if-not-is_allowed.ensures) (sym c.if-not-is_own.ensures) c.blank_tables.ensures.blank c.blank_tables.ensures.slices
