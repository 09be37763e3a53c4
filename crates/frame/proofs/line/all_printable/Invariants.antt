use Rattle.std.proofs.Common.{◌≡◌, drop}
use Rattle.frame.specs.Lines.{all_printable}
use Rattle.frame.proofs.line.all_printable.Given as goal

-- what is left decides
abbrev pub invariant-loop-b : goal.invariant-loop-b
invariant-loop-b l = all_printable (drop l.b-index l.line) ≡ all_printable l.line
