use Rattle.model.proofs.CellLaws.{cells_are_set}
use Rattle.model.proofs.laws.set_cells_are_seen_from_both_sides.Goals as goal

pub returns : goal.returns
returns c = cells_are_set
