-- A refusal as a user sees it.
use Rattle.std.specs.Prelude.{ℕ, List, ◌++◌, codes}
use Rattle.decimals.specs.Write.{fixed}
use Rattle.refusals.specs.Numbers.{number_of}
use Rattle.refusals.specs.declared.Refusal.{Refusal}

-- the fault in two digits and the line in nine
abbrev pub refusal_line : Refusal → List ℕ
refusal_line r = codes "REFUSED " ++ (fixed 2 (number_of r.fault) ++ (codes " LINE " ++ (fixed 9 r.line ++ codes "\n")))
