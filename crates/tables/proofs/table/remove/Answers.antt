use Rattle.tables.proofs.Shifts.{shifted_down}
use Rattle.tables.proofs.table.remove.Goals as goal

pub returns : goal.returns
returns g c =
    let e = shifted_down c.args.rows.now c.args.k g.R.Record.bare c.requires in cc (c.shift_down.ensures, c.blank.ensures)
