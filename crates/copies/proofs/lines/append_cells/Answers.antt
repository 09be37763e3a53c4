use Rattle.std.proofs.Common.{◌+◌, drop}
use Rattle.copies.proofs.Ends.{onward_more, onward_stop, onward_end}
use Rattle.copies.proofs.Walks.{cells_more, cells_all, next_row, next_column}
use Rattle.copies.proofs.lines.append_cells.Goals as goal
use Rattle.copies.specs.Bodies.{cells_from, next_place}

pub loop-value-preserved : goal.loop-value-preserved
loop-value-preserved g c =
    let i = c.loop-value.value-index in
    let p = c.loop-value.place in
    let vs = c.args.cells.now in
    let on = onward_more c.loop-value.invariant.0 _ (cells_from (next_place p) (drop (i + 1) vs)) (cells_more p vs i _ c.loop-value-test.true) c.in_ok-append_cell.ensures in
    let r = next_row p i c.loop-value.invariant.1 in
    let k = next_column p i c.loop-value.invariant.2 in
    rw c.next-place.ensures (on, r, k)

pub returns-in_err-append_cell : goal.returns-in_err-append_cell
returns-in_err-append_cell g c =
    let i = c.loop-value.value-index in
    let p = c.loop-value.place in
    let vs = c.args.cells.now in
    onward_stop c.loop-value.invariant.0 _ (cells_from (next_place p) (drop (i + 1) vs)) (cells_more p vs i _ c.loop-value-test.true) c.in_err-append_cell.ensures
    c.from_residual.result

pub returns : goal.returns
returns g c = onward_end c.loop-value.invariant.0 (cells_all c.loop-value.place c.args.cells.now c.loop-value.value-index c.loop-value-test.false)
