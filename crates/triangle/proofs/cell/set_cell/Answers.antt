use Rattle.std.proofs.Common.{◌≡◌, true, cond, ◌&&◌, length, set, sym, ap, ◌∙◌, rules}
use Rattle.triangle.specs.Triangle.{spot, cell, same, seen}
use Rattle.triangle.proofs.Tri.{cell_set_lem, seen-within}
use Rattle.triangle.proofs.cell.set_cell.Goals as goal

pub returns-clause-matrix : goal.returns-clause-matrix
returns-clause-matrix g c a b =
    let i = c.args.i in
    let j = c.args.j in
    let z = g.T.Cell.nought in
    let xs = c.args.cells.now in
    let s : seen (length xs) i j ≡ true = search rules in
    let e : c.in_ok-k.k ≡ spot i j = search rules in
    ap (λ k. cell z (set xs k c.args.v) a b) e
    ∙ cell_set_lem z xs i j c.args.v (seen-within (length xs) i j s) a b
    ∙ sym (ap (λ t. cond (t && same i j a b) c.args.v (cell z xs a b)) s)
