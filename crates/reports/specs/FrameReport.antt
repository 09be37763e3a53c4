-- What is printed of the frame of a content: a line for each block, and one for the whole; or a refusal.
use Rattle.std.specs.Prelude.{ℕ, List, [], ◌∷◌, ◌++◌, take, drop, Some, None, Ok, Err, codes, decimal, Option, Result}
use Rattle.frame.specs.Frames.{framed}
use Rattle.frame.specs.Headings.{columns, squeezed}
use Rattle.frame.specs.Lines.{fetched}
use Rattle.frame.specs.declared.line.Line.{Line}
use Rattle.frame.specs.declared.walk.Block.{Block}
use Rattle.frame.specs.declared.walk.Frame.{Frame}
use Rattle.refusals.specs.declared.Fault.{Fault}
use Rattle.refusals.specs.declared.Refusal.{Refusal}
use Rattle.reports.specs.Refused.{refusal_line}

-- the words after the sign of a line, one blank apart
abbrev pub title_words : Result (Option Line) Fault → List ℕ
title_words (Ok None) = []
title_words (Ok (Some ln)) = squeezed (columns 1 79 ln)
title_words (Err e) = []

-- the lines of a block's title and of its end, and its data lines
abbrev pub block_tail : Block → List ℕ
block_tail b =
    codes " LINES " ++ (decimal b.start.line ++ (codes "-" ++ (decimal b.end ++ (codes " DATA " ++ (decimal b.data_lines ++ codes "\n")))))

abbrev pub block_line : List ℕ → Block → List ℕ
block_line cs b = codes "BLOCK " ++ (title_words (fetched (drop b.start.byte cs)) ++ block_tail b)

abbrev pub block_lines : List ℕ → List Block → List ℕ
block_lines cs [] = []
block_lines cs (b ∷ bs) = block_line cs b ++ block_lines cs bs

abbrev pub last_line : ℕ → List ℕ
last_line n = codes "FRAME LINES " ++ (decimal n ++ codes "\n")

abbrev pub frame_lines : List ℕ → Frame → List ℕ
frame_lines cs f = block_lines cs (take f.count f.blocks) ++ last_line f.lines

abbrev pub report_of : List ℕ → Result Frame Refusal → List ℕ
report_of cs (Ok f) = frame_lines cs f
report_of cs (Err e) = refusal_line e

-- the whole report of a content
abbrev pub frame_report : List ℕ → List ℕ
frame_report cs = report_of cs (framed cs)
