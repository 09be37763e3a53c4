use Rattle.std.proofs.Common.{◌≡◌, ◌+◌, true, ◌&&◌, drop, set, sym, ap, ◌∙◌, arith, rules}
use Rattle.tables.specs.Rows.{known}
use Rattle.triangle.specs.Statements.{rank_in, all_known}
use Rattle.triangle.proofs.Fills.{fill_more, known_more}
use Rattle.triangle.proofs.row.fill_row.Goals as goal

pub loop-i-preserved : goal.loop-i-preserved
loop-i-preserved g c =
    let order = g.R.Record.order in
    let used = c.args.used in
    let rows = c.args.rows.now in
    let rs = c.args.records.now in
    let i = c.loop-i.i in
    let x = c.index-records-i.result in
    let k : known order x used rows ≡ true = search rules in
    let e : c.in-Ok.rank ≡ rank_in order used rows x = search rules in (
      ap (λ n. set c.loop-i.row i n) e
          ∙ ap (λ l. set l i (rank_in order used rows x)) c.loop-i.invariant.0
          ∙ fill_more (rank_in order used rows) rs c.args.row.now i x (omega arith) (omega arith) c.index-records-i.is,
      sym (known_more order used rows rs i x (omega arith) c.index-records-i.is ∙ ap (λ b. b && all_known order used rows (drop (i + 1) rs)) k) ∙ c.loop-i.invariant.1,
    )
