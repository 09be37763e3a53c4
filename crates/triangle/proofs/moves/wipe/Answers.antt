use Rattle.std.proofs.Common.{suc, arith}
use Rattle.triangle.specs.Triangle.{low}
use Rattle.triangle.proofs.Tri.{tri_le}
use Rattle.triangle.proofs.Lifts.{wiped_from_low}
use Rattle.triangle.proofs.moves.wipe.Goals as goal

pub wipe_row-requires : goal.wipe_row-requires
wipe_row-requires g c = let k = tri_le (suc c.args.r) (suc c.args.n) (omega arith) in omega arith

pub wipe_column-requires : goal.wipe_column-requires
wipe_column-requires g c = omega arith

pub returns : goal.returns
returns g c =
    wiped_from_low g.T.Cell.nought (low g.T.Cell.nought c.args.cells.now) (low g.T.Cell.nought c.wipe_row.new.cells) (low g.T.Cell.nought c.wipe_column.new.cells)
    c.args.n c.args.r (omega arith) c.wipe_row.ensures c.wipe_column.ensures
