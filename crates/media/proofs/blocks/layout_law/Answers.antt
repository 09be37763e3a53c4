use Rattle.media.proofs.Laid.{reads_back, rest-unread}
use Rattle.media.proofs.blocks.layout_law.Goals as goal

pub returns : goal.returns
returns c = record { back = reads_back; rest = rest-unread }
