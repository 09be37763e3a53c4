use Rattle.std.proofs.Common.{◌≡◌, take, drop}
use Rattle.tables.proofs.table.shift_down.Given as goal

abbrev pub invariant-loop-i : goal.invariant-loop-i
invariant-loop-i g l = (take l.i l.part ≡ take l.i (drop 1 l.initial.part)) × (drop l.i l.part ≡ drop l.i l.initial.part)
