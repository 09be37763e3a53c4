-- What sources answer, and what a refused append is told as.
use Rattle.std.specs.Prelude.{ℕ, cond, List, length, Some, None, Option, nat_lt, slice_index}
use Rattle.refusals.specs.declared.Fault.{Fault}
use Rattle.refusals.specs.declared.Fault.TheVariants.{MediumTooSmall}
use Rattle.media.specs.declared.Full.{Full}

-- the byte at a place, or none at or past the length
abbrev pub byte_at : List ℕ → ℕ → Option ℕ
byte_at xs i = cond (nat_lt i (length xs)) (Some (slice_index xs i)) None

-- the numbered fault of a full medium
abbrev pub fault_of : Full → Fault
fault_of _ = MediumTooSmall
