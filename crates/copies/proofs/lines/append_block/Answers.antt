use Rattle.copies.proofs.Ends.{appends_stop, appends_then}
use Rattle.copies.proofs.lines.append_block.Goals as goal
use Rattle.copies.specs.Bodies.{body_lines}
use Rattle.std.proofs.Common.{[], ◌∷◌, ◌++◌}

pub returns-in_err-append_signed : goal.returns-in_err-append_signed
returns-in_err-append_signed g c =
    appends_stop c.in_err-append_signed.ensures c.from_residual.result (body_lines c.args.body ++ ((45 ∷ c.args.title.now) ∷ []))

pub returns-in_err-append_body : goal.returns-in_err-append_body
returns-in_err-append_body g c =
    appends_then c.in_ok-append_signed.ensures
    (appends_stop c.in_err-append_body.ensures c.from_residual-in_err-append_body.result ((45 ∷ c.args.title.now) ∷ []))

pub returns : goal.returns
returns g c =
    appends_then c.in_ok-append_signed.ensures (appends_then c.in_ok-append_body.ensures c.append_signed-2.ensures)
