use Rattle.std.proofs.Common.{◌≡◌, ◌-◌, ◌≤◌, length, drop}
use Rattle.frame.specs.DataLines.{walked}
use Rattle.frame.specs.Lines.{lines}
use Rattle.frame.proofs.data.next_from.Given as goal

abbrev pub invariant-loop-line : goal.invariant-loop-line
invariant-loop-line g l = let cs = g.S.Source.content l.source in
    (l.place.line - 1 ≤ l.place.byte)
    × (walked l.place (lines (drop l.place.byte cs)) ≡ walked l.initial.place (lines (drop l.initial.place.byte cs)))

abbrev pub decreases-loop-line : goal.decreases-loop-line
decreases-loop-line g l = length (g.S.Source.content l.source) - l.place.byte
