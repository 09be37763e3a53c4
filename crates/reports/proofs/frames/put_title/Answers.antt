use Rattle.frame.specs.Headings.{columns, squeezed}
use Rattle.frame.specs.Lines.{fetched}
use Rattle.reports.proofs.Adds.{added, words_of}
use Rattle.reports.proofs.frames.put_title.Goals as goal
use Rattle.reports.specs.FrameReport.{title_words}
use Rattle.std.proofs.Common.{◌≡◌, drop, Ok, sym, ap, ◌∙◌}

pub returns-in-Ok-Some : goal.returns-in-Ok-Some
returns-in-Ok-Some g c =
    let line = c.in-Ok-Some.line in
    let title : title_words (fetched (drop c.args.at (g.S.Source.content c.args.source.now))) ≡ squeezed (columns 1 79 line)
    = ap title_words (sym c.fetch.ensures ∙ (c.in-Ok-Some.is ∙ ap Ok c.in-Ok-Some.field-0-is)) in
    added c.extend_from_slice.result _ _ _ _ c.extend_from_slice.ensures.items (c.front.ensures ∙ (words_of c.heading-heading.result line c.heading-heading.ensures ∙ sym title))
