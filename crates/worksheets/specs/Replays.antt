-- A replay on the way: what was read, and what it stands for.
use Rattle.std.specs.Prelude.{◌≡◌, ℕ, ◌+◌, List, ◌++◌, length, Ok, Err, Result}
use Rattle.frame.specs.Lines.{lines}
use Rattle.model.specs.Edits.{Call, SetHead as SetsHead, Put as Puts, Drop as Drops, SetCell as SetsCell}
use Rattle.model.specs.Solutions.{Solution}
use Rattle.model.specs.States.{State, Stands}
use Rattle.worksheets.specs.Prints.{answers, finally}
use Rattle.worksheets.specs.Sheets.{Sheet, Unclear, Then, call_of, calling, sheet_from}
use Rattle.worksheets.specs.Commands.{takes}
use Rattle.worksheets.specs.declared.commands.Command.{Command}
use Rattle.worksheets.specs.declared.lines.Lines.{Lines}
use Rattle.worksheets.specs.declared.requests.Request.{Request}
use Rattle.worksheets.specs.declared.requests.Request.TheVariants.{SetHead, Put, Drop, SetCell}

-- the call that a request states
abbrev pub stated : Request → Call
stated (SetHead line kind) = SetsHead line.now kind
stated (Put sort line) = Puts sort line.now
stated (Drop sort line) = Drops sort line.now
stated (SetCell first second text) = SetsCell first.now second.now text.now

abbrev pub lines_left : Lines → List (List ℕ)
lines_left x = lines x.rest.now

-- what the lines that are left say
abbrev pub left : Lines → Sheet
left x = sheet_from (x.taken + 1) 0 (lines_left x)

-- what the lines that are left say after a command
abbrev pub given : Command → Lines → Sheet
given c x = calling (x.taken + length (lines_left x) + 1) (call_of c (lines_left x)) (sheet_from (x.taken + 1) (takes c) (lines_left x))

-- what was read: a request and what is left after it, or the number of a line that is no command or is missing
abbrev pub read_as : Result Request ℕ → Lines → Sheet
read_as (Err n) x = Unclear n
read_as (Ok q) x = Then (stated q) (left x)

-- from the state x, with the sheet w to go and the bytes out printed, to the state y, with the sheet v to go and the bytes more
pub record Onward (x : State) (w : Sheet) (out : List ℕ) (y : State) (v : Sheet) (more : List ℕ) : Type 0 where
  pub places : y.places ≡ x.places
  pub goes : (s : Solution) → Stands x s → (t : Solution) × (Stands y t) × (more ++ answers x.places t v ≡ out ++ answers x.places s w) × (finally x.places t v ≡ finally x.places s w)
