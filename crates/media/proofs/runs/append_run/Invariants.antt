use Rattle.std.proofs.Common.{◌≡◌, ◌+◌, ◌++◌, length, take}
use Rattle.media.proofs.runs.append_run.Given as goal

abbrev pub invariant-loop-b : goal.invariant-loop-b
invariant-loop-b g l =
    (g.M.Source.content l.m ≡ g.M.Source.content l.initial.m ++ take l.b-index l.bytes)
    × (length (g.M.Source.content l.m) ≡ length (g.M.Source.content l.initial.m) + l.b-index)
    × (g.M.Medium.room l.m ≡ g.M.Medium.room l.initial.m)
