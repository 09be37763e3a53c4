use Rattle.std.proofs.Common.{◌≡◌, suc, ◌-◌, arith}
use Rattle.std.proofs.lemmas.Bool.Decides.{nat_tests}
use Rattle.triangle.specs.Triangle.{low}
use Rattle.triangle.proofs.Tri.{tri_le}
use Rattle.triangle.proofs.Lifts.{lifts_step, spread_from_low}
use Rattle.triangle.proofs.moves.lift.Goals as goal

pub loop-i-init : goal.loop-i-init
loop-i-init g c = (omega arith, λ a b h. grind (arith, nat_tests))

pub lift_row-requires : goal.lift_row-requires
lift_row-requires g c = let k = tri_le (suc (suc (c.loop-i.i - 1))) (suc c.args.n) (omega arith) in omega arith

pub loop-i-preserved : goal.loop-i-preserved
loop-i-preserved g c = (
  omega arith,
  lifts_step (low g.T.Cell.nought c.args.cells.now) (low g.T.Cell.nought c.loop-i.cells) (low g.T.Cell.nought c.lift_row.new.cells)
      c.args.n c.loop-i.i c.args.r c.loop-i-test.true (omega arith) c.loop-i.invariant.1 c.lift_row.ensures,
)

pub returns : goal.returns
returns g c = spread_from_low (low g.T.Cell.nought c.args.cells.now) (low g.T.Cell.nought c.loop-i.cells) c.args.n c.args.r (let e : c.loop-i.i ≡ c.args.r = omega arith in λ a b h. rw e at (c.loop-i.invariant.1 a b h))
