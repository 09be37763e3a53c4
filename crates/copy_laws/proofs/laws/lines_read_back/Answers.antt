use Rattle.copy_laws.proofs.ReadingBack.{copies_read_back}
use Rattle.copy_laws.proofs.laws.lines_read_back.Goals as goal

pub returns : goal.returns
returns c = copies_read_back
