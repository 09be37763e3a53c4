use Rattle.triangle.proofs.Rules.{all_pinned}
use Rattle.triangle.proofs.laws.pinned_law.Goals as goal

pub returns : goal.returns
returns g c = all_pinned g.row.T.Denot g.T.Cell.nought
