use Rattle.model.proofs.Sameness.{same_equivalence}
use Rattle.model.proofs.laws.same_is_equivalence.Goals as goal

pub returns : goal.returns
returns c = same_equivalence
