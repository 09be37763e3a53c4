use Rattle.copies.proofs.Present.{Noted}
use Rattle.copies.proofs.letters.contents_of.Given as goal

-- the letters of the contents before
abbrev pub invariant-loop-i : goal.invariant-loop-i
invariant-loop-i l = Noted l.estimates l.i l.places l.count
