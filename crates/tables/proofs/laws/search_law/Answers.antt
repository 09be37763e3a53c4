use Rattle.tables.proofs.Places.{search_law}
use Rattle.tables.proofs.laws.search_law.Goals as goal

pub returns : goal.returns
returns g c = search_law g.R.Record.order g.met.R.Record.lawful
