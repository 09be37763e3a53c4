use Rattle.std.proofs.Common.{arith}
use Rattle.triangle.proofs.Tri.{tri_half, tri_bound}
use Rattle.triangle.proofs.cell.rows.Goals as goal

pub returns : goal.returns
returns c = record { count = tri_half c.args.i; bound = omega (arith, tri_half c.args.i, tri_bound c.args.i (omega arith)) }
