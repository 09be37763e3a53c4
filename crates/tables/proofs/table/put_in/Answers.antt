use Rattle.std.proofs.Common.{rules}
use Rattle.tables.proofs.Standing.{put_sorted_as}
use Rattle.tables.proofs.table.put_in.Goals as goal

pub returns-clause-sorted : goal.returns-clause-sorted
returns-clause-sorted g c = λ le up. put_sorted_as g.R.Record.order g.met.R.Record.lawful c.args.r g.R.Record.bare c.args.used c.args.rows.now le up _ _ (search rules) (search rules)

pub returns-in_err-put-clause-sorted : goal.returns-in_err-put-clause-sorted
returns-in_err-put-clause-sorted g c = λ le up. put_sorted_as g.R.Record.order g.met.R.Record.lawful c.args.r g.R.Record.bare c.args.used c.args.rows.now le up _ _ (search rules) (search rules)
