use Rattle.std.proofs.Common.{◌≡◌, ◌+◌, ◌≤◌, drop}
use Rattle.copies.proofs.lengths.count_nonzero.Given as goal
use Rattle.copies.specs.Lengths.{nonzero}

-- with those still to come they are all
abbrev pub invariant-loop-v : goal.invariant-loop-v
invariant-loop-v l = (l.count + nonzero (drop l.v-index l.cells) ≡ nonzero l.cells) × (l.count ≤ l.v-index)
