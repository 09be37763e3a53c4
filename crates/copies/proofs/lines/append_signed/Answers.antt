use Rattle.copies.proofs.Ends.{appends_line, appends_signed}
use Rattle.copies.proofs.lines.append_signed.Goals as goal
use Rattle.std.proofs.Common.{refl}

pub returns : goal.returns
returns g c =
    let first = c.in_ok-append.ensures in
    let rest = c.append_line.ensures in
    appends_signed _ _ c.args.sign _ _ _ _ _ c.args.title.now first.after first.kept
    (appends_line _ _ _ _ _ _ rest.granted rest.after rest.kept c.args.title.now refl)
