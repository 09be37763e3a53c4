use Rattle.tables.proofs.Edits.{put_law}
use Rattle.tables.proofs.laws.put_law.Goals as goal

pub returns : goal.returns
returns g c = put_law g.R.Record.order g.met.R.Record.lawful
