use Rattle.model.proofs.CellLaws.{drops_keep_other_cells}
use Rattle.model.proofs.laws.dropped_estimates_leave_other_cells.Goals as goal

pub returns : goal.returns
returns c = drops_keep_other_cells
