use Rattle.std.proofs.Common.{◌≡◌, ℕ, ◌≤◌, cond, ◌&&◌, eqb, ltb}
use Rattle.triangle.specs.Triangle.{low}
use Rattle.triangle.proofs.moves.wipe_column.Given as goal

abbrev pub invariant-loop-k : goal.invariant-loop-k
invariant-loop-k g l = (a b : ℕ) → b ≤ a → low g.T.Cell.nought l.cells a b ≡ cond (ltb l.r a && (ltb a l.k && eqb b l.r)) g.T.Cell.nought (low g.T.Cell.nought l.initial.cells a b)
