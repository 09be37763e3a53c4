use Rattle.std.proofs.Common.{◌-◌, length}
use Rattle.frame.proofs.Turns.{Going}
use Rattle.frame.proofs.walk.walk_lines.Given as goal

abbrev pub invariant-loop-line : goal.invariant-loop-line
invariant-loop-line g l = Going (g.S.Source.content l.source) l.place l.progress

abbrev pub decreases-loop-line : goal.decreases-loop-line
decreases-loop-line g l = length (g.S.Source.content l.source) - l.place.byte
