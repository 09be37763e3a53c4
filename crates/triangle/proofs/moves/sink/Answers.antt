use Rattle.std.proofs.Common.{◌≡◌, suc, ◌-◌, arith}
use Rattle.std.proofs.lemmas.Bool.Decides.{nat_tests}
use Rattle.triangle.specs.Triangle.{low}
use Rattle.triangle.proofs.Tri.{tri_le}
use Rattle.triangle.proofs.Lifts.{sinks_step}
use Rattle.triangle.proofs.moves.sink.Goals as goal

pub loop-i-init : goal.loop-i-init
loop-i-init g c a b h = grind (arith, nat_tests)

pub sink_row-requires : goal.sink_row-requires
sink_row-requires g c = let k = tri_le (suc (suc c.loop-i.i)) c.args.n (omega arith) in omega arith

pub loop-i-preserved : goal.loop-i-preserved
loop-i-preserved g c =
    sinks_step (low g.T.Cell.nought c.args.cells.now) (low g.T.Cell.nought c.loop-i.cells) (low g.T.Cell.nought c.sink_row.new.cells)
    c.loop-i.i c.args.r (omega arith) c.loop-i.invariant c.sink_row.ensures

pub returns : goal.returns
returns g c a b h = let e : c.loop-i.i ≡ c.args.n - 1 = omega arith in rw e at (c.loop-i.invariant a b h)
