use Rattle.tables.proofs.Edits.{back_law}
use Rattle.tables.proofs.laws.back_law.Goals as goal

pub returns : goal.returns
returns g c = back_law g.R.Record.order g.met.R.Record.lawful
