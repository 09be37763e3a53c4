-- What an edit is handed as bytes: a line of a block, a header line, a number's text.
use Rattle.std.specs.Prelude.{ℕ, Bool, cond, List, length, Some, None, Ok, Err, codes, Option, Result, nat_le}
use Rattle.codes.specs.Order.{same_text}
use Rattle.decimals.specs.Number.{read_number}
use Rattle.decimals.specs.declared.number.Number.{Number}
use Rattle.fields.specs.Angle.{columns}
use Rattle.frame.specs.Lines.{fits, kind_of, line_of}
use Rattle.frame.specs.declared.line.Line.{Line}
use Rattle.frame.specs.declared.line.LineKind.{LineKind}
use Rattle.frame.specs.declared.line.LineKind.TheVariants.{Bound, Comment, Title, End, Data}
use Rattle.headings.specs.Lines.{and_then}
use Rattle.refusals.specs.declared.Fault.{Fault}
use Rattle.refusals.specs.declared.Fault.TheVariants.{NoHeaderLine, UnfitLine, UnknownLineKind, WrongNumber}

-- a test that has to hold, and the fault where it does not
abbrev pub demand : Fault → Bool → Result (Unit {0}) Fault
demand f b = cond b (Ok tt) (Err f)

-- at most 80 bytes, each of them printable
abbrev pub fit_line : List ℕ → Result Line Fault
fit_line bs = cond (fits bs) (Ok (line_of bs)) (Err UnfitLine)

abbrev pub data_of : Line → Option LineKind → Result (List ℕ) Fault
data_of ln None = Err UnknownLineKind
data_of ln (Some Bound) = Err UnknownLineKind
data_of ln (Some Comment) = Err UnknownLineKind
data_of ln (Some Title) = Err UnknownLineKind
data_of ln (Some End) = Err UnknownLineKind
data_of ln (Some Data) = Ok ln.columns

-- the 80 columns of a data line, whose first is blank
abbrev pub data_line : List ℕ → Result (List ℕ) Fault
data_line bs = and_then (fit_line bs) (λ ln. data_of ln (kind_of ln))

abbrev pub known_kind : Option LineKind → Result LineKind Fault
known_kind None = Err UnknownLineKind
known_kind (Some k) = Ok k

-- the 80 columns of a line of any kind that begins as a header line does
abbrev pub header_line : List ℕ → Result (List ℕ) Fault
header_line bs =
    and_then (fit_line bs) (λ ln.
    and_then (known_kind (kind_of ln)) (λ _.
    and_then (demand NoHeaderLine (same_text (columns 0 10 ln.columns) (codes "%=SNX 2.02"))) (λ _.
    Ok ln.columns)))

-- the text of a cell's number has at most 21 bytes, as the column of an element has
abbrev pub cell_number : List ℕ → Result Number Fault
cell_number bs = cond (nat_le (length bs) 21) (read_number bs) (Err WrongNumber)
