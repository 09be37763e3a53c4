use Rattle.std.proofs.Common.{◌≡◌, ◌∙◌, rules}
use Rattle.tables.specs.Rows.{sought, used_rows}
use Rattle.tables.proofs.Standing.{sought_sorted}
use Rattle.tables.proofs.table.find_in.Goals as goal

pub returns : goal.returns
returns g c =
    let spot : c.seek.result ≡ sought g.R.Record.order c.args.r.now (used_rows c.args.used c.args.rows.now) = search rules in
    record {
      spot = spot;
      within = search rules;
      sorted = λ le up. spot ∙ sought_sorted g.R.Record.order g.met.R.Record.lawful c.args.r.now g.R.Record.bare c.args.used c.args.rows.now le up;
    }
