-- What holds of fair copies, in words of lines and records.
use Rattle.std.specs.Prelude.{◌≡◌, ℕ, ◌+◌, ◌<◌, ◌≤◌, true, List, length, take, Some, Ok}
use Rattle.codes.specs.Text.{Ended, padded}
use Rattle.copies.specs.Copy.{copy_lines, fair_copy, fair_lines, header_of, shorn}
use Rattle.copies.specs.Lengths.{copy_length}
use Rattle.frame.specs.Lines.{lines}
use Rattle.model.specs.Solutions.{Solution, cell_of}
use Rattle.model.specs.States.{Fits, Kept, allowed}
use Rattle.model.specs.declared.counts.Counts.{Counts}
use Rattle.record_laws.specs.Valid.{Printable}
use Rattle.record_laws.specs.MatrixLaws.{one_cell}
use Rattle.headings.specs.Elements.{matrix_text, read_matrix_line}
use Rattle.headings.specs.Headers.{read_header}
use Rattle.headings.specs.declared.headers.Head.{Head}
use Rattle.records.specs.Copies.{parameter_text, site_text, span_text}
use Rattle.records.specs.Parameters.{read_indexed}
use Rattle.records.specs.Sites.{read_site}
use Rattle.records.specs.Spans.{read_span}
use Rattle.records.specs.declared.parameters.Parameter.{Parameter}
use Rattle.records.specs.declared.sites.Site.{Site}
use Rattle.records.specs.declared.spans.Span.{Span}
use Rattle.tables.specs.Laws.{Among}

-- a solution that a register can hold, with the head h
pub record Writable (h : Head) (s : Solution) : Type 0 where
  pub head : s.head ≡ Some h
  pub kept : Kept s
  pub few : (P : Counts) × ((allowed P ≡ true) × Fits P s)

-- the lines of the copy, split at byte 10, are its lines; each can be printed, has at most 80 bytes and does not end in a blank; and each
-- is just as long as its kind of line is
pub record CopyIsLines (h : Head) (s : Solution) : Type 0 where
  pub split : lines (fair_copy h s) ≡ fair_lines h s
  pub shown : (l : List ℕ) → Among l (fair_lines h s) → Printable l × (length l ≤ 80) × Ended l
  pub cut : copy_lines take h s ≡ fair_lines h s
  pub long : length (fair_copy h s) ≡ copy_length s
  pub small : length (fair_copy h s) < 100000000

abbrev pub CopiesAreLines : Type 0
CopiesAreLines = (h : Head) (s : Solution) → Writable h s → CopyIsLines h s

-- each line read as its record gives that record back
pub record LinesReadBack (h : Head) (s : Solution) : Type 0 where
  pub header : read_header (padded 80 (header_of (λ w t. shorn t) h s.estimates)) ≡ Ok (h.header, length s.estimates)
  pub sites : (x : Site) → Among x s.sites → read_site (padded 80 (shorn (site_text x))) ≡ Ok x
  pub spans : (x : Span) → Among x s.spans → read_span (padded 80 (shorn (span_text x))) ≡ Ok x
  pub estimates : (i : ℕ) (x : Parameter) → i < 100000 → Among x s.estimates → read_indexed (padded 80 (shorn (parameter_text i x))) ≡ Ok (i, x)
  pub aprioris : (i : ℕ) (x : Parameter) → i < 100000 → Among x s.aprioris → read_indexed (padded 80 (shorn (parameter_text i x))) ≡ Ok (i, x)
  pub cells : (i j : ℕ) → i < length s.estimates → j < length s.estimates
      → read_matrix_line (padded 80 (shorn (matrix_text (i + 1) (j + 1) (cell_of s i j)))) ≡ Ok (one_cell (i + 1) (j + 1) (cell_of s i j))

abbrev pub CopiesReadBack : Type 0
CopiesReadBack = (h : Head) (s : Solution) → Writable h s → LinesReadBack h s
