-- What a worksheet says: the calls that its lines state, one after another.
use Rattle.std.specs.Prelude.{ℕ, zero, suc, ◌+◌, List, [], ◌∷◌, length, Some, None, Option}
use Rattle.frame.specs.Lines.{lines}
use Rattle.model.specs.Edits.{Call, SetHead as SetsHead, Put as Puts, Drop as Drops, SetCell as SetsCell}
use Rattle.worksheets.specs.Commands.{read_command, takes}
use Rattle.worksheets.specs.declared.commands.Command.{Command}
use Rattle.worksheets.specs.declared.commands.Command.TheVariants.{SetHead, Put, Drop, SetCell}

-- the call that a command makes with the lines after it; none where they are too few
abbrev pub call_of : Command → List (List ℕ) → Option Call
call_of (SetHead kind) [] = None
call_of (SetHead kind) (a ∷ ls) = Some (SetsHead a kind)
call_of (Put sort) [] = None
call_of (Put sort) (a ∷ ls) = Some (Puts sort a)
call_of (Drop sort) [] = None
call_of (Drop sort) (a ∷ ls) = Some (Drops sort a)
call_of SetCell [] = None
call_of SetCell (a ∷ []) = None
call_of SetCell (a ∷ (b ∷ [])) = None
call_of SetCell (a ∷ (b ∷ (c ∷ ls))) = Some (SetsCell a b c)

-- calls in their order, up to the end of the worksheet or a line that is not understood, which has this number
pub data Sheet : Type 0 where
  Done : Sheet
  Unclear : ℕ → Sheet
  Then : Call → Sheet → Sheet

-- a call and what follows it; without it, the line of this number is missing
abbrev pub calling : ℕ → Option Call → Sheet → Sheet
calling n None rest = Unclear n
calling n (Some c) rest = Then c rest

-- line n is a command, or is not; the lines ls come after it, and what follows when so many of them are passed over
abbrev pub begun : ℕ → Option Command → List (List ℕ) → (ℕ → Sheet) → Sheet
begun n None ls past = Unclear n
begun n (Some c) ls past = calling (n + length ls + 1) (call_of c ls) (past (takes c))

-- the lines from line n on, of which the first k are arguments of a call before them
abbrev pub sheet_from : ℕ → ℕ → List (List ℕ) → Sheet
sheet_from n k [] = Done
sheet_from n zero (l ∷ ls) = begun n (read_command l) ls (λ k. sheet_from (n + 1) k ls)
sheet_from n (suc k) (l ∷ ls) = sheet_from (n + 1) k ls

abbrev pub sheet_of : List ℕ → Sheet
sheet_of bs = sheet_from 1 0 (lines bs)
