use Rattle.std.proofs.Common.{length}
use Rattle.triangle.specs.Triangle.{cell}
use Rattle.triangle.proofs.States.{Left}
use Rattle.triangle.proofs.row.FileMatrix.state_all.Given as goal

abbrev pub invariant-loop-k : goal.invariant-loop-k
invariant-loop-k g l =
    Left g.T.Cell.is_nought l.self.ranks.now l.self.count l.self.side (length l.initial.cells) (cell g.T.Cell.nought l.initial.cells) l.elements (cell g.T.Cell.nought l.cells) l.k
