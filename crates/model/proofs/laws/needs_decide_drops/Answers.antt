use Rattle.model.proofs.Deciding.{needs_decide_drops}
use Rattle.model.proofs.laws.needs_decide_drops.Goals as goal

pub returns : goal.returns
returns c = needs_decide_drops
