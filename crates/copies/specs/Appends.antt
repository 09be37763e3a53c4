-- Lines that are added at the end of a medium's content.
use Rattle.std.specs.Prelude.{◌≡◌, ℕ, ◌+◌, ◌≤◌, List, ◌++◌, length, Ok, Result}
use Rattle.copies.specs.Copy.{ended}
use Rattle.media.specs.declared.Full.{Full}

-- A call that is to add these lines to the content `had` of a medium with that room answers `a`, and leaves the content `has` and the
-- room `left`. Where the lines fit, they are added, each with byte 10 after it. The room stays.
pub record Appends (had : List ℕ) (room : ℕ) (a : Result (Unit {0}) Full) (has : List ℕ) (left : ℕ) (lines : List (List ℕ)) : Type 0 where
  pub fits : length had + length (ended lines) ≤ room → (a ≡ Ok tt) × (has ≡ had ++ ended lines)
  pub kept : left ≡ room
