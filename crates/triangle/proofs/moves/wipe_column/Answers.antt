use Rattle.std.proofs.Common.{◌≡◌, suc, ◌+◌, ◌<◌, length, ◌∙◌, arith, rules}
use Rattle.std.proofs.lemmas.Bool.Decides.{nat_tests}
use Rattle.triangle.specs.Triangle.{tri, low}
use Rattle.triangle.proofs.Tri.{low_below, low_put_same, low_put_other}
use Rattle.triangle.proofs.Lifts.{wipe_column_step}
use Rattle.triangle.proofs.moves.wipe_column.Goals as goal
use Rattle.triangle.proofs.moves.wipe_column.Given as given

within : (g : given.Over) (c : goal.After-rows g) → c.rows.result + c.args.r < length c.loop-k.cells
within g c = omega (arith, low_below c.loop-k.k c.args.r (suc c.args.n) (omega arith) (omega arith))

pub offset_bounds-cells-rows : goal.offset_bounds-cells-rows
offset_bounds-cells-rows g c = let h = within g c in search rules

pub bounds-cells-rows : goal.bounds-cells-rows
bounds-cells-rows g c = within g c

pub loop-k-init : goal.loop-k-init
loop-k-init g c a b h = grind (arith, nat_tests)

pub loop-k-preserved : goal.loop-k-preserved
loop-k-preserved g c =
    let r = c.args.r in
    let k = c.loop-k.k in
    let xs = c.loop-k.cells in
    let e : c.rows.result + r ≡ tri k + r = omega arith in
    let z = g.T.Cell.nought in
    let v = c.zero.result in
    wipe_column_step z (low z c.args.cells.now) (low z xs) (low z _) r k (omega arith) c.loop-k.invariant
    (low_put_same z xs _ k r v e (within g c) ∙ c.zero.ensures) (low_put_other z xs _ k r v e (omega arith))

pub returns : goal.returns
returns g c a b h = grind (arith, nat_tests, c.loop-k.invariant a b h)
