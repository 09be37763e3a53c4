-- A fair copy written to a medium.
use Rattle.std.specs.Prelude.{◌≡◌, ℕ, false, cond, List, length, Some, None, Ok, Err, Option, Result, nat_le}
use Rattle.copies.specs.Copy.{fair_copy}
use Rattle.model.specs.Edits.{unplaced}
use Rattle.model.specs.Solutions.{Solution}
use Rattle.model.specs.States.{Stands, State, own}
use Rattle.headings.specs.declared.headers.Head.{Head}
use Rattle.refusals.specs.declared.Fault.{Fault}
use Rattle.refusals.specs.declared.Fault.TheVariants.{MediumTooSmall, NoHead, TableLengths}
use Rattle.refusals.specs.declared.Refusal.{Refusal}
use Rattle.std.specs.Result.{result_unwrap_or}
use Rattle.tables.specs.Rows.{plain}

abbrev pub written_by : Option Head → Solution → ℕ → Result (List ℕ) Fault
written_by None s room = Err NoHead
written_by (Some h) s room = cond (nat_le (length (fair_copy h s)) room) (Ok (fair_copy h s)) (Err MediumTooSmall)

-- what a medium with that much room holds after the solution is written to it, or the fault that the writing is refused for
abbrev pub written : Solution → ℕ → Result (List ℕ) Fault
written s room = written_by s.head s room

-- x are the register and its tables, which a writing does not change; the medium had the content `before`, and then has `after`
pub record Writes (x : State) (before : List ℕ) (room : ℕ) (a : Result (Unit {0}) Refusal) (after : List ℕ) : Type 0 where
  -- tables of other lengths
  pub strange : own x ≡ false → (a ≡ Err (record { fault = TableLengths; line = 0 })) × (after ≡ before)
  -- its own tables: granted with just the fair copy in the medium, or refused with the medium as it was
  pub answers : (s : Solution) → Stands x s → a ≡ unplaced (plain (written s room))
  pub leaves : (s : Solution) → Stands x s → after ≡ result_unwrap_or (written s room) before
