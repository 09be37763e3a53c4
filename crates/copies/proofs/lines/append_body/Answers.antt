use Rattle.copies.proofs.Ends.{appends_as}
use Rattle.copies.proofs.Walks.{lines_mapped, lines-numbered}
use Rattle.copies.proofs.lines.append_body.Goals as goal
use Rattle.copies.specs.Bodies.{body_lines}
use Rattle.records.specs.Copies.{site_text, span_text}
use Rattle.std.proofs.Common.{take, sym, ap, ◌∙◌}

pub returns-in-Sites : goal.returns-in-Sites
returns-in-Sites g c = appends_as (lines_mapped (λ x. take 75 (site_text x)) 1 c.in-Sites.sites.now ∙ ap body_lines (sym c.in-Sites.is)) c.append_records.ensures

pub returns-in-Spans : goal.returns-in-Spans
returns-in-Spans g c = appends_as (lines_mapped (λ x. take 54 (span_text x)) 1 c.in-Spans.spans.now ∙ ap body_lines (sym c.in-Spans.is)) c.append_records-in-Spans.ensures

pub returns-in-Parameters : goal.returns-in-Parameters
returns-in-Parameters g c = appends_as (lines-numbered 1 c.in-Parameters.parameters.now ∙ ap body_lines (sym c.in-Parameters.is)) c.append_records-in-Parameters.ensures
