use Rattle.copies.proofs.letters.any_is_of.Given as goal
use Rattle.copies.specs.Copy.{is_of}
use Rattle.model.specs.Needs.{any_of}
use Rattle.std.proofs.Common.{◌≡◌, drop}

-- none of the estimates before is of these contents
abbrev pub invariant-loop-p : goal.invariant-loop-p
invariant-loop-p l = any_of (is_of l.contents) (drop l.p-index l.estimates) ≡ any_of (is_of l.contents) l.estimates
