use Rattle.tables.proofs.Edits.{drop_law}
use Rattle.tables.proofs.laws.drop_law.Goals as goal

pub returns : goal.returns
returns g c = drop_law g.R.Record.order g.met.R.Record.lawful
