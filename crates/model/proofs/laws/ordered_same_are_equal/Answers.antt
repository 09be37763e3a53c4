use Rattle.model.proofs.Sameness.{ordered_equal}
use Rattle.model.proofs.laws.ordered_same_are_equal.Goals as goal

pub returns : goal.returns
returns c = ordered_equal
