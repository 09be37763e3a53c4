use Rattle.model.proofs.EstimateSteps.{cell_number_canonical}
use Rattle.register.proofs.calls.set_cell_named.Goals as goal
use Rattle.std.proofs.Common.{sym, ◌∙◌}

pub set_cell_of-requires : goal.set_cell_of-requires
set_cell_of-requires c = cell_number_canonical c.args.text.now c.in_ok-value.value (sym c.cell_number.ensures ∙ c.in_ok-value.was)
