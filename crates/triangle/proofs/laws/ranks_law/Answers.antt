use Rattle.triangle.proofs.Files.{ranks_found, ranks_apart, fill_apart}
use Rattle.triangle.proofs.laws.ranks_law.Goals as goal

pub returns : goal.returns
returns g c = record {
  found = ranks_found g.row.R.Denot g.R.Record.order g.met.R.Record.lawful;
  filled = fill_apart g.row.R.Denot g.R.Record.order g.met.R.Record.lawful;
  apart = ranks_apart g.row.R.Denot g.R.Record.order g.met.R.Record.lawful;
}
