use Rattle.std.proofs.Common.{arith}
use Rattle.triangle.proofs.Tri.{tri_more}
use Rattle.triangle.proofs.Runs.{sunk}
use Rattle.triangle.proofs.moves.sink_row.Goals as goal

pub returns : goal.returns
returns g c =
    let parts = c.split_at_mut-above.ensures in
    rw parts.value
    (sunk g.T.Cell.nought c.split_at_mut-above.result.0.now c.split_at_mut-above.result.1.now c.args.i c.args.r c.rows-2.result c.rows-2.ensures.count (omega arith)
    (omega (arith, tri_more c.args.i)) (omega (arith, tri_more c.args.i)) _ _ c.copy_from_slice.ensures.after c.copy_from_slice-2.ensures.after)
