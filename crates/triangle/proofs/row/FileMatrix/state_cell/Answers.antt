use Rattle.std.proofs.Common.{cond, ◌&&◌, length, sym, ap, ◌∙◌}
use Rattle.std.proofs.lemmas.Bool.{cond-true}
use Rattle.triangle.specs.Triangle.{cell, same}
use Rattle.triangle.specs.Statements.{rank_of, sound}
use Rattle.triangle.proofs.States.{free_seen, free-sound, free_new, stated-at}
use Rattle.triangle.proofs.row.FileMatrix.state_cell.Goals as goal

pub returns : goal.returns
returns g c =
    let void = g.T.Cell.is_nought in
    let ρ = c.args.self.now.ranks.now in
    let xs = c.args.cells.now in
    let e = c.args.e in
    let f = cell g.T.Cell.nought xs in
    let i = rank_of ρ e.row in
    let j = rank_of ρ e.column in
    let nz = c.if-is_zero.ensures in
    let fr = c.if-not-is_free.ensures in
    let s = free_seen void ρ c.args.self.now.count c.args.self.now.side (length xs) f e fr in
    let ok = free-sound void ρ c.args.self.now.count c.args.self.now.side (length xs) f e fr in
    let done = c.set_cell.ensures in
    record {
      answer = done.answer ∙ cond-true _ _ _ s ∙ sym (cond-true _ _ _ ok);
      list = done.list ∙ cond-true _ _ _ s ∙ sym (cond-true _ _ _ (free_new void ρ c.args.self.now.count c.args.self.now.side (length xs) f e nz fr));
      matrix = λ a b.
          done.matrix a b
          ∙ ap (λ t. cond (t && same i j a b) e.value (f a b)) s
          ∙ sym (cond-true (sound void ρ c.args.self.now.count c.args.self.now.side (length xs) f e) _ _ ok ∙ stated-at void ρ c.args.self.now.count c.args.self.now.side (length xs) f e (sym nz) a b);
    }
