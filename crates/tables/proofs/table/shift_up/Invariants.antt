use Rattle.std.proofs.Common.{◌≡◌, ◌-◌, ◌≤◌, length, take, drop}
use Rattle.tables.proofs.table.shift_up.Given as goal

abbrev pub invariant-loop-i : goal.invariant-loop-i
invariant-loop-i g l =
    (1 ≤ l.i)
    × (take l.i l.part ≡ take l.i l.initial.part)
    × (drop l.i l.part ≡ drop (l.i - 1) (take (length l.initial.part - 1) l.initial.part))
