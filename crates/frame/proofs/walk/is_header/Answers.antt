use Rattle.std.proofs.Common.{◌∙◌}
use Rattle.frame.specs.Frames.{header, is_header}
use Rattle.frame.proofs.Words.{front_begins}
use Rattle.frame.proofs.walk.is_header.Goals as goal

pub returns : goal.returns
unfolding is_header
returns c = c.starts_with.ensures.value ∙ front_begins c.args.line.now.columns header
