use Rattle.std.proofs.Common.{◌≡◌, length, replicate, ap, ◌∙◌, arith, rules}
use Rattle.tables.proofs.Shifts.{filled_with}
use Rattle.triangle.proofs.Runs.{filled_row}
use Rattle.triangle.proofs.moves.wipe_row.Goals as goal

pub returns : goal.returns
returns g c =
    let (last, ran) = c.fill_with.ensures.ran in
    let xs = c.fill_with.new.self in
    let zeros : xs ≡ replicate (length xs) g.T.Cell.nought = filled_with _ g.T.Cell.nought (λ f h x e. let met = e.met in search rules) _ last xs ran in
    filled_row g.T.Cell.nought c.args.cells.now xs c.rows-base.result _ c.args.r c.rows-base.ensures.count (omega arith) (omega arith)
    (zeros ∙ ap (λ n. replicate n g.T.Cell.nought) (c.fill_with.ensures.len ∙ omega arith))
