use Rattle.std.proofs.Common.{◌≡◌, ◌-◌, ◌≤◌, length}
use Rattle.tables.specs.Rows.{halving, sought}
use Rattle.tables.proofs.table.seek.Given as goal

abbrev pub invariant-loop-low : goal.invariant-loop-low
invariant-loop-low g l =
    (l.low ≤ l.high) × (l.high ≤ length l.rows)
    × (halving g.R.Record.order l.r l.rows (l.high - l.low) l.low l.high ≡ sought g.R.Record.order l.r l.rows)

abbrev pub decreases-loop-low : goal.decreases-loop-low
decreases-loop-low g l = l.high - l.low
