use Rattle.std.proofs.Common.{◌-◌, length, Less, Equal, Greater, sym, ◌∙◌, arith}
use Rattle.tables.proofs.Halves.{halve_step, halving-end, fuel}
use Rattle.tables.proofs.table.seek.Goals as goal

pub loop-low-init : goal.loop-low-init
loop-low-init g c =
    let n = length c.args.rows.now in (
      omega arith,
      omega arith,
      fuel g.R.Record.order c.args.r.now c.args.rows.now (n - 0) n 0 n (omega arith) (omega arith),
    )

pub loop-low-preserved-in-Less : goal.loop-low-preserved-in-Less
loop-low-preserved-in-Less g c = (
  omega arith,
  omega arith,
  sym (halve_step g.R.Record.order c.args.r.now c.args.rows.now c.loop-low.low c.loop-low.high c.index-rows-mid.result Less
      (omega arith) (omega arith) c.index-rows-mid.is c.in-Less.ensures)
      ∙ c.loop-low.invariant.2,
)

pub returns-in-Equal : goal.returns-in-Equal
returns-in-Equal g c = record {
  within = omega arith;
  spot =
      sym (halve_step g.R.Record.order c.args.r.now c.args.rows.now c.loop-low.low c.loop-low.high c.index-rows-mid.result Equal
      (omega arith) (omega arith) c.index-rows-mid.is c.in-Equal.ensures)
      ∙ c.loop-low.invariant.2;
}

pub loop-low-preserved : goal.loop-low-preserved
loop-low-preserved g c = (
  omega arith,
  omega arith,
  sym (halve_step g.R.Record.order c.args.r.now c.args.rows.now c.loop-low.low c.loop-low.high c.index-rows-mid.result Greater
      (omega arith) (omega arith) c.index-rows-mid.is c.in-Greater.ensures)
      ∙ c.loop-low.invariant.2,
)

pub returns : goal.returns
returns g c =
    record {
      within = omega arith;
      spot = sym (halving-end g.R.Record.order c.args.r.now c.args.rows.now (c.loop-low.high - c.loop-low.low) c.loop-low.low c.loop-low.high (omega arith)) ∙ c.loop-low.invariant.2;
    }
