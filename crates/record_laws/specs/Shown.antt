-- Lines that are written can be printed.
use Rattle.std.specs.Prelude.{ℕ, List, Option}
use Rattle.decimals.specs.declared.number.Number.{Number}
use Rattle.headings.specs.Copies.{header_text}
use Rattle.headings.specs.Elements.{matrix_text}
use Rattle.records.specs.Copies.{site_text, span_text, parameter_text}
use Rattle.record_laws.specs.Valid.{Printable, ValidHeader, ValidSite, ValidSpan, ValidParameter}
use Rattle.codes.specs.declared.letters.Contents.{Contents}
use Rattle.headings.specs.declared.headers.Header.{Header}
use Rattle.records.specs.declared.parameters.Parameter.{Parameter}
use Rattle.records.specs.declared.sites.Site.{Site}
use Rattle.records.specs.declared.spans.Span.{Span}

pub record LinesAreShown : Type 0 where
  pub headers : (h : Header) (n : ℕ) (letters : List (Option Contents)) → ValidHeader h → Printable (header_text h n letters)
  pub sites : (s : Site) → ValidSite s → Printable (site_text s)
  pub spans : (s : Span) → ValidSpan s → Printable (span_text s)
  pub parameters : (n : ℕ) (p : Parameter) → ValidParameter p → Printable (parameter_text n p)
  pub cells : (row column : ℕ) (value : Number) → Printable (matrix_text row column value)
