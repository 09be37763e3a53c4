use Rattle.std.proofs.Common.{sym, ap, ◌∙◌, arith}
use Rattle.frame.specs.DataLines.{Walked}
use Rattle.frame.proofs.DataWalk.{walk_yields, walkable_true}
use Rattle.frame.proofs.data.next_data.Goals as goal

pub returns : goal.returns
returns g c =
    let cs = g.S.Source.content c.args.source.now in
    let s = sym (walkable_true cs c.args.place.now (omega arith) (omega arith)) in
    let f = c.next_from.ensures.found ∙ ap (λ (x : Walked). x.found) s in
    let p = c.next_from.ensures.place ∙ ap (λ (x : Walked). x.place) s in
    record { found = f; place = p; yields = walk_yields cs c.args.place.now _ _ f p }
