use Rattle.std.proofs.Common.{◌+◌, ◌-◌, length}
use Rattle.frame.proofs.Walks.{Copied}
use Rattle.frame.proofs.line.fetch.Given as goal

abbrev pub invariant-loop-b : goal.invariant-loop-b
invariant-loop-b g l = Copied (g.S.Source.content l.source) l.at l.len l.columns

abbrev pub decreases-loop-b : goal.decreases-loop-b
decreases-loop-b g l = length (g.S.Source.content l.source) - (l.at + l.len)
