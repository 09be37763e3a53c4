use Rattle.std.proofs.Common.{◌≤◌, drop}
use Rattle.copies.proofs.Ends.{Onward}
use Rattle.copies.proofs.lines.append_cells.Given as goal
use Rattle.copies.specs.Bodies.{cells_from}

-- with the lines of the cells still to come the lines of all
abbrev pub invariant-loop-value : goal.invariant-loop-value
invariant-loop-value g l =
    Onward (g.M.Source.content l.initial.m) (g.M.Medium.room l.initial.m) (g.M.Source.content l.m) (g.M.Medium.room l.m)
    (cells_from l.place (drop l.value-index l.cells)) (cells_from (record { row = 0; column = 0 }) l.cells)
    × (l.place.row ≤ l.value-index)
    × (l.place.column ≤ l.value-index)
