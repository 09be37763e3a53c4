use Rattle.std.proofs.Common.{◌∙◌}
use Rattle.frame.proofs.Titled.{has_given}
use Rattle.frame.proofs.walk.has_title.Goals as goal

pub returns : goal.returns
returns c = c.is_some.ensures ∙ has_given c.args.title c.args.blocks.now c.block_of.result c.block_of.ensures
