use Rattle.std.proofs.Common.{◌≡◌, ◌++◌, map, take, drop}
use Rattle.triangle.specs.Statements.{rank_in, all_known}
use Rattle.triangle.proofs.row.fill_row.Given as goal

abbrev pub invariant-loop-i : goal.invariant-loop-i
invariant-loop-i g l =
    (l.row ≡ map (rank_in g.R.Record.order l.used l.rows) (take l.i l.records) ++ drop l.i l.initial.row)
    × (all_known g.R.Record.order l.used l.rows (drop l.i l.records) ≡ all_known g.R.Record.order l.used l.rows l.records)
