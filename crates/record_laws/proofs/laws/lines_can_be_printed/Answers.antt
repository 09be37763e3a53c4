use Rattle.record_laws.proofs.Shown.{lines_are_shown}
use Rattle.record_laws.proofs.laws.lines_can_be_printed.Goals as goal

pub returns : goal.returns
returns c = lines_are_shown
