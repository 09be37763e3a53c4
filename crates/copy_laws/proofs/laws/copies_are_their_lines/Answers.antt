use Rattle.copy_laws.proofs.CopyLines.{copies_are_lines}
use Rattle.copy_laws.proofs.laws.copies_are_their_lines.Goals as goal

pub returns : goal.returns
returns c = copies_are_lines
