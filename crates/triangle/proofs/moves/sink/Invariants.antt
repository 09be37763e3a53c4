use Rattle.std.proofs.Common.{◌≡◌, ℕ, ◌+◌, ◌≤◌, cond, ◌&&◌, ltb, leb}
use Rattle.triangle.specs.Triangle.{low, jump}
use Rattle.triangle.proofs.moves.sink.Given as goal

abbrev pub invariant-loop-i : goal.invariant-loop-i
invariant-loop-i g l = (a b : ℕ) → b ≤ a → low g.T.Cell.nought l.cells a b ≡ cond (leb l.r a && ltb a l.i) (low g.T.Cell.nought l.initial.cells (a + 1) (jump l.r b)) (low g.T.Cell.nought l.initial.cells a b)
