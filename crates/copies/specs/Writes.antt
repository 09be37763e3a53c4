-- What writing a fair copy promises.
use Rattle.std.specs.Prelude.{◌≡◌, ℕ, Bool, true, false, List, length, take, Some, None, Ok, Err, Option, Result, nat_le}
use Rattle.copies.specs.Copy.{copy_lines, ended}
use Rattle.copies.specs.Lengths.{copy_length}
use Rattle.copies.specs.Measures.{measured}
use Rattle.media.specs.declared.Full.{Full}
use Rattle.model.specs.Solutions.{Solution}
use Rattle.headings.specs.declared.headers.Head.{Head}
use Rattle.triangle.specs.Triangle.{tri}

-- a length was found, and it is within the room
abbrev pub within : ℕ → Option ℕ → Bool
within room None = false
within room (Some n) = nat_le n room

-- A call that is to write the solution s with the head h in place of the content `had` of a medium with that room answers `a`, and
-- leaves the content `has` and the room `left`.
pub record Writes (had : List ℕ) (room : ℕ) (h : Head) (s : Solution) (a : Result (Unit {0}) Full) (has : List ℕ) (left : ℕ) : Type 0 where
  -- where the measured length is not within the room, the content stays
  pub refused : within room (measured s) ≡ false → (a ≡ Err (record {})) × (has ≡ had)
  -- where it is, and it is the length of the lines, the content is the lines
  pub written : within room (measured s) ≡ true → length s.cells ≡ tri (length s.estimates) → length (ended (copy_lines take h s)) ≡ copy_length s
      → (a ≡ Ok tt) × (has ≡ ended (copy_lines take h s))
  pub kept : left ≡ room
