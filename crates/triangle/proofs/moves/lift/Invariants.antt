use Rattle.std.proofs.Common.{◌≡◌, ℕ, ◌-◌, ◌≤◌, cond, not, ◌&&◌, eqb, ltb, leb}
use Rattle.triangle.specs.Triangle.{low, skip}
use Rattle.triangle.proofs.moves.lift.Given as goal

abbrev pub invariant-loop-i : goal.invariant-loop-i
invariant-loop-i g l = (l.r ≤ l.i) × ((a b : ℕ) → b ≤ a → low g.T.Cell.nought l.cells a b ≡ cond (ltb l.i a && (leb a l.n && not (eqb b l.r))) (low g.T.Cell.nought l.initial.cells (a - 1) (skip l.r b)) (low g.T.Cell.nought l.initial.cells a b))
