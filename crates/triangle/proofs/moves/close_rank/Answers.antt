use Rattle.std.proofs.Common.{suc, ◌-◌, ◌<◌, length, sym, refl, ◌∙◌, arith}
use Rattle.std.proofs.lemmas.Bool.{cond-true, cond-false}
use Rattle.triangle.specs.Triangle.{cell, low, closed, closable}
use Rattle.triangle.proofs.Tri.{closable-parts, tri_le}
use Rattle.triangle.proofs.Lifts.{closed_from_low}
use Rattle.triangle.proofs.Outcomes.{granted, left}
use Rattle.triangle.proofs.moves.close_rank.Goals as goal

pub sink-requires : goal.sink-requires
sink-requires g c = let p = closable-parts (length c.args.cells.now) c.args.n c.args.r c.if-not-can_close.ensures in omega arith

pub wipe_row-requires : goal.wipe_row-requires
wipe_row-requires g c =
    let p = closable-parts (length c.args.cells.now) c.args.n c.args.r c.if-not-can_close.ensures in
    let q = tri_le (suc (c.args.n - 1)) c.args.n (omega arith) in omega arith

pub returns-then-not-can_close : goal.returns-then-not-can_close
returns-then-not-can_close g c =
    let z = g.T.Cell.nought in
    let xs = c.args.cells.now in
    let b = closable (length xs) c.args.n c.args.r in
    let o = left z xs xs refl (closed z c.args.n c.args.r (cell z xs)) b c.if-not-can_close.ensures refl in
    record { answer = sym (cond-false b _ _ (sym c.if-not-can_close.ensures)); matrix = o.0; list = o.1; refused = o.2 }

pub returns : goal.returns
returns g c =
    let z = g.T.Cell.nought in
    let n = c.args.n in
    let r = c.args.r in
    let xs = c.args.cells.now in
    let ys = c.wipe_row.new.cells in
    let b = closable (length xs) n r in
    let p = closable-parts (length xs) n r c.if-not-can_close.ensures in
    let lt : r < n = p.2 in
    let o = granted z xs ys (c.wipe_row.auto.cells ∙ c.sink.auto.cells) (closed z n r (cell z xs)) b c.if-not-can_close.ensures
    (closed_from_low z (low z xs) (low z c.sink.new.cells) (low z ys) n r lt c.sink.ensures c.wipe_row.ensures) in
    record { answer = sym (cond-true b _ _ (sym c.if-not-can_close.ensures)); matrix = o.0; list = o.1; refused = o.2 }
