use Rattle.std.proofs.Common.{◌≡◌, ◌+◌, ◌*◌, length, take, ap, ◌∙◌, arith}
use Rattle.copies.proofs.Ends.{appends_line}
use Rattle.copies.proofs.Walks.{front}
use Rattle.copies.proofs.lines.append_header.Goals as goal
use Rattle.copies.specs.Copy.{contents_of, header_of}
use Rattle.headings.specs.Copies.{header_text}

pub returns : goal.returns
returns g c =
    let es = c.args.estimates.now in
    let h = c.args.head.now in
    let rest = c.append_line.ensures in
    let n = length (contents_of es) in
    let w : 67 + 2 * c.contents_of-letters.result.count ≡ 67 + (n + n) = omega (arith, c.contents_of-letters.ensures.count) in
    appends_line _ _ _ _ _ _ rest.granted rest.after rest.kept (header_of take h es)
    (front _ _ _ _ w (c.write_header-columns.ensures ∙ ap (λ ps. header_text h.header (length es) ps) c.contents_of-letters.ensures.places))
