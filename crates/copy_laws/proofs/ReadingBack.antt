-- Each line of a copy, with blanks up to 80 columns, is read as its record. Assumes nothing.
use Rattle.std.proofs.Common.{◌≡◌, ℕ, ◌+◌, ◌<◌, length, Ok, ap, ◌∙◌, arith}
use Rattle.copies.specs.Copy.{contents_of, six_places}
use Rattle.copy_laws.proofs.CopyLines.{few, head_valid, header_line_lem}
use Rattle.copy_laws.proofs.Widths.{cell_cut, parameter_cut, site-cut, span_cut}
use Rattle.copy_laws.specs.CopyLaws.{CopiesReadBack}
use Rattle.model.specs.Solutions.{cell_of}
use Rattle.record_laws.proofs.ComeBack.{cells_come_back, headers_come_back, parameters_come_back, sites_come_back, spans_come_back}
use Rattle.record_laws.specs.Valid.{ValidParameter}
use Rattle.codes.specs.Text.{padded}
use Rattle.copies.specs.Copy.{shorn}
use Rattle.headings.specs.Elements.{read_matrix_line}
use Rattle.headings.specs.Headers.{read_header}
use Rattle.records.specs.Copies.{parameter_text}
use Rattle.records.specs.Parameters.{read_indexed}
use Rattle.records.specs.Sites.{read_site}
use Rattle.records.specs.Spans.{read_span}
use Rattle.records.specs.declared.parameters.Parameter.{Parameter}

parameter_read : (i : ℕ) (x : Parameter) → i < 100000 → ValidParameter x → read_indexed (padded 80 (shorn (parameter_text i x))) ≡ Ok (i, x)
parameter_read i x l v = ap read_indexed (parameter_cut i x v).back ∙ (parameters_come_back i x v).1 l

pub copies_read_back : CopiesReadBack
copies_read_back h s w =
    let r = w.kept.readable in
    let f = few h s w in
    let n = f.estimates in
    record {
      header = ap read_header (header_line_lem h s w).back ∙ (headers_come_back h.header (length s.estimates) (six_places (contents_of s.estimates)) (head_valid h s w)).1 (omega arith);
      sites = λ x m. ap read_site (site-cut x (r.sites x m)).back ∙ sites_come_back x (r.sites x m);
      spans = λ x m. ap read_span (span_cut x (r.spans x m)).back ∙ spans_come_back x (r.spans x m);
      estimates = λ i x l m. parameter_read i x l (r.estimates x m);
      aprioris = λ i x l m. parameter_read i x l (r.aprioris x m);
      cells = λ i j a b. ap read_matrix_line (cell_cut (i + 1) (j + 1) (cell_of s i j)).back ∙ cells_come_back (i + 1) (j + 1) (cell_of s i j) (omega arith) (omega arith) (r.cells i j);
    }
