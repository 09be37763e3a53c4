use Rattle.model.proofs.Telling.{tables_are_solutions}
use Rattle.model.proofs.laws.equal_tables_mean_same_solution.Goals as goal

pub returns : goal.returns
returns c = tables_are_solutions
