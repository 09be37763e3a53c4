use Rattle.copies.proofs.letters.is_of.Goals as goal
use Rattle.copies.specs.Copy.{is_of}
use Rattle.std.proofs.Common.{rules}

pub returns-in-Some : goal.returns-in-Some
unfolding is_of
returns-in-Some c = search rules

pub returns-in-None : goal.returns-in-None
unfolding is_of
returns-in-None c = search rules
