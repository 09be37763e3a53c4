-- The frame of a file, as a recursion over its lines.
use Rattle.std.specs.Prelude.{ℕ, ◌+◌, ◌<◌, ◌≤◌, Bool, false, cond, ◌&&◌, ◌||◌, List, [], ◌∷◌, ◌++◌, length, Some, None, Ok, Err, codes, Option, Result, ◌==◌, nat_lt}
use Rattle.frame.specs.Blocks.{frame_as}
use Rattle.frame.specs.Headings.{begins, caption_of, heading_of, is_text}
use Rattle.frame.specs.Lines.{lines, fits, line_of, passed, is_nil, kind_of}
use Rattle.frame.specs.Titles.{place_of}
use Rattle.frame.specs.declared.heading.Caption.{Caption}
use Rattle.frame.specs.declared.heading.Heading.{Heading}
use Rattle.frame.specs.declared.line.Line.{Line}
use Rattle.frame.specs.declared.line.LineKind.{LineKind}
use Rattle.frame.specs.declared.line.LineKind.TheVariants.{Bound, Comment, Title, End, Data}
use Rattle.frame.specs.declared.place.Place.{Place}
use Rattle.frame.specs.declared.title.Title.{Title as BlockTitle}
use Rattle.frame.specs.declared.title.Title.TheVariants.{SiteId, SolutionEpochs, SolutionEstimate, SolutionApriori, SolutionMatrixEstimate}
use Rattle.frame.specs.declared.walk.Block.{Block}
use Rattle.frame.specs.declared.walk.Frame.{Frame}
use Rattle.frame.specs.declared.walk.Progress.{Progress}
use Rattle.frame.specs.declared.walk.Stage.{Stage}
use Rattle.frame.specs.declared.walk.Stage.TheVariants.{Start, Outside, Inside}
use Rattle.refusals.specs.declared.Fault.{Fault}
use Rattle.refusals.specs.declared.Fault.TheVariants.{SourceTooLong, UnfitLine, UnknownLineKind, NoHeaderLine, BrokenFrame, WrongTitle, TitleTwice, BlockMissing}
use Rattle.refusals.specs.declared.Refusal.{Refusal}
use Rattle.std.specs.Str.{bytes_eq}

-- a refusal at the line of a place
abbrev pub at : Fault → Place → Refusal
at f p = record { fault = f; line = p.line }

-- what a function that changes a progress came to
abbrev pub outcome : {U : Type 0} → Result U Refusal → Progress → Result Progress Refusal
outcome (Ok u) f = Ok f
outcome (Err e) f = Err e

-- whether a block has this title
abbrev pub has_title : BlockTitle → List Block → Bool
has_title k [] = false
has_title k (b ∷ bs) = place_of b.caption.title == place_of k || has_title k bs

-- the first of the blocks that have this title
abbrev pub block_of : BlockTitle → List Block → Option Block
block_of k [] = None
block_of k (b ∷ bs) = cond (place_of b.caption.title == place_of k) (Some b) (block_of k bs)

-- a block begins: its title has to be one of the format's, and no earlier block may have it
abbrev pub opening : Place → Place → List Block → Heading → Option Caption → Result Progress Refusal
opening p q bs h None = Err (at WrongTitle p)
opening p q bs h (Some c) = cond (has_title c.title bs) (Err (at TitleTwice p))
    (Ok (record { stage = Inside h (record { caption = c; start = p; body = q; data_lines = 0; end = 0 }); ended = bs }))

abbrev pub opened : Place → List Block → Line → Result Progress Refusal
opened p bs ln = opening p (passed p ln.len) bs (heading_of ln) (caption_of (heading_of ln).text)

-- a block that ends in the line of a place
abbrev pub ending : Place → Block → Block
ending p b = record b { end = p.line }

-- a block ends, with the words of its title
abbrev pub closed : Place → List Block → Line → Heading → Block → Result Progress Refusal
closed p bs ln h b = cond (bytes_eq (heading_of ln).text h.text) (Ok (record { stage = Outside; ended = bs ++ ending p b ∷ [] })) (Err (at BrokenFrame p))

-- one data line more
abbrev pub counted : Block → Block
counted b = record b { data_lines = b.data_lines + 1 }

abbrev pub header : List ℕ
header = codes "%=SNX 2.02"

abbrev pub footer : List ℕ
footer = codes "%ENDSNX"

unfoldable pub is_header : Line → Bool
is_header ln = begins ln.columns header

abbrev pub outside : Place → List Block → Line → LineKind → Result Progress Refusal
outside p bs ln Bound = Err (at BrokenFrame p)
outside p bs ln Comment = Ok (record { stage = Outside; ended = bs })
outside p bs ln Title = opened p bs ln
outside p bs ln End = Err (at BrokenFrame p)
outside p bs ln Data = Err (at BrokenFrame p)

abbrev pub inside : Place → List Block → Line → Heading → Block → LineKind → Result Progress Refusal
inside p bs ln h b Bound = Err (at BrokenFrame p)
inside p bs ln h b Comment = Ok (record { stage = Inside h b; ended = bs })
inside p bs ln h b Title = Err (at BrokenFrame p)
inside p bs ln h b End = closed p bs ln h b
inside p bs ln h b Data = Ok (record { stage = Inside h (counted b); ended = bs })

abbrev pub by_stage : Place → List Block → Line → LineKind → Stage → Result Progress Refusal
by_stage p bs ln k Start = cond (is_header ln) (Ok (record { stage = Outside; ended = bs })) (Err (at NoHeaderLine p))
by_stage p bs ln k Outside = outside p bs ln k
by_stage p bs ln k (Inside h b) = inside p bs ln h b k

abbrev pub by_kind : Place → Progress → Line → Option LineKind → Result Progress Refusal
by_kind p f ln None = Err (at UnknownLineKind p)
by_kind p f ln (Some k) = by_stage p f.ended ln k f.stage

-- a line that is not the last
abbrev pub stepped : Place → Progress → Line → Result Progress Refusal
stepped p f ln = by_kind p f ln (kind_of ln)

-- each block that the register takes up is there
abbrev pub all_taken : List Block → Bool
all_taken bs =
    has_title SiteId bs && (has_title SolutionEpochs bs && (has_title SolutionEstimate bs && (has_title SolutionApriori bs && has_title SolutionMatrixEstimate bs)))

abbrev pub end_by_stage : Place → List Block → Line → Stage → Result Frame Refusal
end_by_stage p bs ln Start = cond (is_header ln) (Err (at BrokenFrame p)) (Err (at NoHeaderLine p))
end_by_stage p bs ln Outside = cond (is_text footer ln.columns) (cond (all_taken bs) (Ok (frame_as bs p.line)) (Err (at BlockMissing p))) (Err (at BrokenFrame p))
end_by_stage p bs ln (Inside h b) = Err (at BrokenFrame p)

abbrev pub end_by_kind : Place → Progress → Line → Option LineKind → Result Frame Refusal
end_by_kind p f ln None = Err (at UnknownLineKind p)
end_by_kind p f ln (Some k) = end_by_stage p f.ended ln f.stage

-- the last line: the footer, outside a block
abbrev pub ended : Place → Progress → Line → Result Frame Refusal
ended p f ln = end_by_kind p f ln (kind_of ln)

abbrev pub continued : Result Progress Refusal → (Progress → Result Frame Refusal) → Result Frame Refusal
continued (Ok f) k = k f
continued (Err e) k = Err e

-- the lines from a place on
unfoldable pub frame : Place → Progress → List (List ℕ) → Result Frame Refusal
frame p f [] = Err (at NoHeaderLine p)
frame p f (l ∷ ls) = cond (fits l)
    (cond (is_nil ls) (ended p f (line_of l)) (continued (stepped p f (line_of l)) (λ g. frame (passed p (length l)) g ls)))
    (Err (at UnfitLine p))

-- before the first line
abbrev pub unread : Progress
unread = record { stage = Start; ended = [] }

abbrev pub first_place : Place
first_place = record { byte = 0; line = 1 }

-- the whole content
abbrev pub framed : List ℕ → Result Frame Refusal
framed cs = cond (nat_lt 100000000 (length cs)) (Err (record { fault = SourceTooLong; line = 0 })) (frame first_place unread (lines cs))

-- inside a block, that block has a place among the ended ones, and one data line more is counted
abbrev pub SpaciousIn : Stage → List Block → Type 0
SpaciousIn Start bs = Unit {0}
SpaciousIn Outside bs = Unit {0}
SpaciousIn (Inside h b) bs = (length bs < 26) × (b.data_lines ≤ 100000000)

abbrev pub Spacious : Progress → Type 0
Spacious f = SpaciousIn f.stage f.ended
