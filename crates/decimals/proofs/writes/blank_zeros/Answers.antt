use Rattle.std.proofs.Common.{arith}
use Rattle.std.proofs.lemmas.Grind.{common_steps}
use Rattle.decimals.proofs.Runs.{blanked_short}
use Rattle.decimals.proofs.writes.blank_zeros.Goals as goal

pub returns : goal.returns
returns c = grind (arith, common_steps, blanked_short)
