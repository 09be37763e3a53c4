use Rattle.std.proofs.Common.{◌≡◌, ◌++◌, take, drop}
use Rattle.decimals.specs.Justify.{blanked}
use Rattle.decimals.proofs.writes.blank_zeros.Given as goal

abbrev pub invariant-loop-column : goal.invariant-loop-column
invariant-loop-column l =
    take l.column-index l.column-items ++ blanked (drop l.column-index l.column-items ++ drop l.last l.fn.out) ≡ blanked l.fn.out
