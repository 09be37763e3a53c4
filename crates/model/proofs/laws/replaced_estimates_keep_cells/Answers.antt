use Rattle.model.proofs.CellLaws.{puts_keep_cells}
use Rattle.model.proofs.laws.replaced_estimates_keep_cells.Goals as goal

pub returns : goal.returns
returns c = puts_keep_cells
