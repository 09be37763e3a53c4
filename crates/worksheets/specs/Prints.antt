-- What is printed of a replay.
use Rattle.std.specs.Prelude.{◌≡◌, ℕ, cond, List, [], ◌++◌, Ok, Err, codes, decimal, Result}
use Rattle.model.specs.Edits.{after, reply}
use Rattle.model.specs.Solutions.{Solution}
use Rattle.model.specs.States.{State, Stands, counts_of, nothing}
use Rattle.model.specs.declared.counts.Counts.{Counts}
use Rattle.refusals.specs.declared.Fault.TheVariants.{TableLengths}
use Rattle.refusals.specs.declared.Refusal.{Refusal}
use Rattle.register.specs.Making.{lengths_of, makeable}
use Rattle.register.specs.declared.lent.Tables.{Tables}
use Rattle.reports.specs.Refused.{refusal_line}
use Rattle.worksheets.specs.Sheets.{Sheet, Done, Unclear, Then, sheet_of}

abbrev pub answer_line : Result (Unit {0}) Refusal → List ℕ
answer_line (Ok x) = codes "GRANTED\n"
answer_line (Err r) = refusal_line r

abbrev pub unclear_line : ℕ → List ℕ
unclear_line n = codes "NOT UNDERSTOOD LINE " ++ (decimal n ++ codes "\n")

abbrev pub holds_line : Counts → List ℕ
holds_line n =
    codes "HOLDS " ++ (decimal n.sites ++ (codes " SITES " ++ (decimal n.spans ++ (codes " SPANS "
    ++ (decimal n.estimates ++ (codes " ESTIMATES " ++ (decimal n.aprioris ++ codes " APRIORIS\n")))))))

-- what is printed of the calls where the solution s is held before them, over P places
abbrev pub answers : Counts → Solution → Sheet → List ℕ
answers P s Done = []
answers P s (Unclear n) = unclear_line n
answers P s (Then c w) = answer_line (reply P s c) ++ answers P (after P s c) w

-- the solution that is held after them
abbrev pub finally : Counts → Solution → Sheet → Solution
finally P s Done = s
finally P s (Unclear n) = s
finally P s (Then c w) = finally P (after P s c) w

-- the whole of what is printed
abbrev pub replayed : Counts → Solution → Sheet → List ℕ
replayed P s w = answers P s w ++ holds_line (counts_of (finally P s w))

-- what is printed of a worksheet that is replayed on a new register over the tables t; or that none can be made over them
abbrev pub sheet_report : Tables → List ℕ → List ℕ
sheet_report t bs = cond (makeable t) (replayed (lengths_of t) nothing (sheet_of bs)) (refusal_line (record { fault = TableLengths; line = 0 }))

-- a replay of the sheet w: x stood before it, these bytes are printed, y stands then
pub record Replays (w : Sheet) (x : State) (printed : List ℕ) (y : State) : Type 0 where
  pub prints : (s : Solution) → Stands x s → printed ≡ replayed x.places s w
  pub leaves : (s : Solution) → Stands x s → Stands y (finally x.places s w)
