use Rattle.std.proofs.Common.{◌+◌, ◌<◌, length, take, drop, ap, ◌∙◌, arith}
use Rattle.tables.proofs.Shifts.{fall_take, fall_drop, fall_end, fallen}
use Rattle.tables.proofs.table.shift_down.Goals as goal

pub loop-i-preserved : goal.loop-i-preserved
loop-i-preserved g c =
    let i = c.loop-i.i in
    let start = c.args.part.now in
    let d = g.R.Record.bare in
    let lt : i + 1 < length start = omega arith in
    let done = c.lower.ensures d in (
      ap (take (i + 1)) done ∙ fall_take c.loop-i.part start i d lt c.loop-i.auto.part c.loop-i.invariant.1 c.loop-i.invariant.0,
      ap (drop (i + 1)) done ∙ fall_drop c.loop-i.part start i d lt c.loop-i.auto.part c.loop-i.invariant.1,
    )

pub returns : goal.returns
returns g c = fallen c.loop-i.part c.args.part.now (fall_end c.loop-i.part c.args.part.now c.loop-i.i (omega arith) c.loop-i.invariant.0 c.loop-i.invariant.1)
