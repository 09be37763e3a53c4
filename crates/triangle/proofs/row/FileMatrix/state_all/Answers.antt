use Rattle.std.proofs.Common.{◌≡◌, ℕ, true, false, length, sym, ap, ◌∙◌, rules}
use Rattle.std.proofs.lemmas.Bool.{cond-true, cond-false}
use Rattle.triangle.specs.Triangle.{cell}
use Rattle.triangle.specs.Statements.{sound}
use Rattle.triangle.proofs.States.{left_more, left_stop}
use Rattle.triangle.proofs.row.FileMatrix.state_all.Goals as goal

pub loop-k-preserved : goal.loop-k-preserved
loop-k-preserved g c =
    let void = g.T.Cell.is_nought in
    let m = c.args.self.now in
    let f = cell g.T.Cell.nought c.loop-k.cells in
    let x = c.index-elements-k.result in
    let ok : sound void m.ranks.now m.count m.side (length c.loop-k.cells) f x ≡ true = search rules in
    left_more void m.ranks.now m.count m.side (length c.args.cells.now) (cell g.T.Cell.nought c.args.cells.now) c.args.elements.now
    f (cell g.T.Cell.nought c.state_cell.new.cells) c.loop-k.k x c.loop-k-test.true c.index-elements-k.is
    (ap (λ n. sound void m.ranks.now m.count m.side n f x) (sym c.loop-k.auto.cells) ∙ ok)
    (λ a b. c.state_cell.ensures.matrix a b ∙ cond-true _ _ _ ok) c.loop-k.invariant

pub returns-then-is_err : goal.returns-then-is_err
returns-then-is_err g c =
    let void = g.T.Cell.is_nought in
    let m = c.args.self.now in
    let f = cell g.T.Cell.nought c.loop-k.cells in
    let x = c.index-elements-k.result in
    let bad : sound void m.ranks.now m.count m.side (length c.loop-k.cells) f x ≡ false = search rules in
    let p = left_stop void m.ranks.now m.count m.side (length c.args.cells.now) (cell g.T.Cell.nought c.args.cells.now) c.args.elements.now
    f c.loop-k.k x c.loop-k-test.true c.index-elements-k.is
    (ap (λ n. sound void m.ranks.now m.count m.side n f x) (sym c.loop-k.auto.cells) ∙ bad) c.loop-k.invariant in
    record { answer = p.1; matrix = λ a b. c.state_cell.ensures.matrix a b ∙ cond-false _ _ _ bad ∙ ap (λ (h : ℕ → ℕ → g.row.T.Denot). h a b) p.0 }
