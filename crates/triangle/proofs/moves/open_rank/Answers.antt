use Rattle.std.proofs.Common.{cond, length, sym, refl, ap, ◌∙◌, arith}
use Rattle.std.proofs.lemmas.Bool.{cond-true, cond-false}
use Rattle.triangle.specs.Triangle.{cell, fresh, opened, openable}
use Rattle.triangle.proofs.Tri.{openable-parts}
use Rattle.triangle.proofs.Outcomes.{granted, left}
use Rattle.triangle.proofs.moves.open_rank.Goals as goal

pub lift-requires : goal.lift-requires
lift-requires g c = let p = openable-parts (length c.args.cells.now) c.args.n c.args.r c.if-not-can_open.ensures in omega arith

pub wipe-requires : goal.wipe-requires
wipe-requires g c = let p = openable-parts (length c.args.cells.now) c.args.n c.args.r c.if-not-can_open.ensures in omega arith

pub returns-then-not-can_open : goal.returns-then-not-can_open
returns-then-not-can_open g c =
    let z = g.T.Cell.nought in
    let xs = c.args.cells.now in
    let b = openable (length xs) c.args.n c.args.r in
    let o = left z xs xs refl (opened z c.args.n c.args.r (cell z xs)) b c.if-not-can_open.ensures refl in
    record { answer = sym (cond-false b _ _ (sym c.if-not-can_open.ensures)); matrix = o.0; list = o.1; refused = o.2 }

pub returns : goal.returns
returns g c =
    let z = g.T.Cell.nought in
    let n = c.args.n in
    let r = c.args.r in
    let xs = c.args.cells.now in
    let b = openable (length xs) n r in
    let o = granted z xs c.wipe.new.cells (c.wipe.auto.cells ∙ c.lift.auto.cells) (opened z n r (cell z xs)) b c.if-not-can_open.ensures
    (λ i j. c.wipe.ensures i j ∙ ap (λ v. cond (fresh n r i j) z v) (c.lift.ensures i j)) in
    record { answer = sym (cond-true b _ _ (sym c.if-not-can_open.ensures)); matrix = o.0; list = o.1; refused = o.2 }
