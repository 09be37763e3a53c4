use Rattle.model.proofs.CellLaws.{put_then_drop}
use Rattle.model.proofs.laws.put_then_drop_gives_back.Goals as goal

pub returns : goal.returns
returns c = put_then_drop
