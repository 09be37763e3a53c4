-- A line taken from the front of a content.
use Rattle.std.specs.Prelude.{◌≡◌, ℕ, ◌+◌, ◌<◌, List, [], ◌∷◌, length, Some, None, Option}
use Rattle.frame.specs.Lines.{lines}
use Rattle.std.specs.Borrow.{Bor}

-- the line that was taken, if there was one, and those of the rest
abbrev pub line_then : Option (Bor (List ℕ)) → List ℕ → List (List ℕ)
line_then None rest = []
line_then (Some l) rest = l.now ∷ lines rest

-- how many lines were taken
abbrev pub counted : Option (Bor (List ℕ)) → ℕ → ℕ
counted None n = n
counted (Some l) n = n + 1

-- less is left after a line was taken, and the same after none
abbrev pub Shorter : Option (Bor (List ℕ)) → List ℕ → List ℕ → Type 0
Shorter None before rest = rest ≡ before
Shorter (Some l) before rest = length rest < length before
