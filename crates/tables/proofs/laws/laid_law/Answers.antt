use Rattle.tables.proofs.Standing.{laid_law}
use Rattle.tables.proofs.laws.laid_law.Goals as goal

pub returns : goal.returns
returns g c = laid_law g.R.Record.order g.R.Record.bare g.met.R.Record.lawful
