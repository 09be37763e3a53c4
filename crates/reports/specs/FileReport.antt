-- What is printed of a file: its header and its frame, or a refusal.
use Rattle.std.specs.Prelude.{ℕ, cond, List, [], ◌∷◌, ◌++◌, take, drop, replicate, Some, None, Ok, Err, codes, Option, Result, ◌==◌}
use Rattle.frame.specs.Frames.{framed}
use Rattle.frame.specs.Lines.{fetched}
use Rattle.frame.specs.Titles.{place_of}
use Rattle.frame.specs.declared.line.Line.{Line}
use Rattle.frame.specs.declared.title.Title.{Title}
use Rattle.frame.specs.declared.title.Title.TheVariants.{SolutionEstimate}
use Rattle.frame.specs.declared.walk.Block.{Block}
use Rattle.frame.specs.declared.walk.Frame.{Frame}
use Rattle.headings.specs.Copies.{header_text}
use Rattle.headings.specs.Headers.{read_header}
use Rattle.headings.specs.Lines.{and_then}
use Rattle.headings.specs.declared.headers.Header.{Header}
use Rattle.refusals.specs.declared.Fault.{Fault}
use Rattle.refusals.specs.declared.Fault.TheVariants.{NoHeaderLine, OutOfStep}
use Rattle.refusals.specs.declared.Refusal.{Refusal}
use Rattle.reports.specs.FrameReport.{frame_lines}
use Rattle.reports.specs.Refused.{refusal_line}

-- the number of data lines of the block with this title; 0 where there is none
abbrev pub data_lines_of : Title → List Block → ℕ
data_lines_of k [] = 0
data_lines_of k (b ∷ bs) = cond (place_of b.caption.title == place_of k) b.data_lines (data_lines_of k bs)

abbrev pub header_at : Result (Option Line) Fault → Result (Header × ℕ) Fault
header_at (Ok None) = Err NoHeaderLine
header_at (Ok (Some ln)) = read_header ln.columns
header_at (Err e) = Err NoHeaderLine

-- the header's count is the number of data lines with estimates
abbrev pub counted : ℕ → Header × ℕ → Result (Header × ℕ) Fault
counted n x = cond (x.1 == n) (Ok x) (Err OutOfStep)

-- the header of a content with these blocks
abbrev pub header_in : List ℕ → List Block → Result (Header × ℕ) Fault
header_in cs bs = and_then (header_at (fetched cs)) (counted (data_lines_of SolutionEstimate bs))

-- its fields as a fair copy spells them, from the first agency to the constraint
abbrev pub header_line : Header × ℕ → List ℕ
header_line x = codes "HEADER " ++ (take 56 (drop 11 (header_text x.0 x.1 (replicate 6 None))) ++ codes "\n")

-- a fault of the header stands in line 1
abbrev pub after_header : List ℕ → Frame → Result (Header × ℕ) Fault → List ℕ
after_header cs f (Err e) = refusal_line (record { fault = e; line = 1 })
after_header cs f (Ok x) = header_line x ++ frame_lines cs f

abbrev pub file_report_of : List ℕ → Result Frame Refusal → List ℕ
file_report_of cs (Ok f) = after_header cs f (header_in cs (take f.count f.blocks))
file_report_of cs (Err e) = refusal_line e

-- the whole report of a content
abbrev pub file_report : List ℕ → List ℕ
file_report cs = file_report_of cs (framed cs)
