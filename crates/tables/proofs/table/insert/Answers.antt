use Rattle.tables.proofs.Shifts.{shifted_up}
use Rattle.tables.proofs.table.insert.Goals as goal

pub returns : goal.returns
returns g c = let e = shifted_up c.args.rows.now c.args.k c.args.r c.requires in cc c.shift_up.ensures
