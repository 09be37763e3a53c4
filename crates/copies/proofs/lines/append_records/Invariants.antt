use Rattle.std.proofs.Common.{◌≡◌, ◌+◌, take, drop}
use Rattle.copies.proofs.Ends.{Onward}
use Rattle.copies.proofs.lines.append_records.Given as goal
use Rattle.copies.specs.Bodies.{lines_from}

-- with the lines of the records still to come the lines of all
abbrev pub invariant-loop-x : goal.invariant-loop-x
invariant-loop-x g l =
    Onward (g.M.Source.content l.initial.m) (g.M.Medium.room l.initial.m) (g.M.Source.content l.m) (g.M.Medium.room l.m)
    (lines_from (λ i x. take g.R.Lined.wide (g.R.Lined.columns i x)) l.index (drop l.x-index l.records))
    (lines_from (λ i x. take g.R.Lined.wide (g.R.Lined.columns i x)) 1 l.records)
    × (l.index ≡ l.x-index + 1)
