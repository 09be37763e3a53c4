use Rattle.copies.proofs.Counting.{nonzero_more, nonzero-same}
use Rattle.copies.proofs.lengths.count_nonzero.Goals as goal
use Rattle.copies.proofs.lengths.count_nonzero.Goals.{then-not-is_zero, else-not-is_zero}
use Rattle.copies.specs.Lengths.{nonzero}
use Rattle.std.proofs.lemmas.List.{drop_all}
use Rattle.std.proofs.Common.{◌≡◌, drop, sym, ap, arith}

pub loop-v-preserved : goal.loop-v-preserved
loop-v-preserved c =
    let vs = c.args.cells.now in
    let i = c.loop-v.v-index in
    elim c.if-not-is_zero.branch [
      | then-not-is_zero w ↦
          let e = nonzero_more vs i _ c.loop-v-test.true (sym w.if-not-is_zero.ensures) in
          (omega (arith, e, c.loop-v.invariant.0, w.count-is), omega (arith, c.loop-v.invariant.1, w.count-is))
      | else-not-is_zero w ↦
          let e = nonzero-same vs i _ c.loop-v-test.true (sym w.if-not-is_zero.ensures) in
          (omega (arith, e, c.loop-v.invariant.0, w.count-is), omega (arith, c.loop-v.invariant.1, w.count-is))
    ]

pub returns : goal.returns
returns c =
    let e : nonzero (drop c.loop-v.v-index c.args.cells.now) ≡ 0 = ap nonzero (drop_all c.loop-v.v-index c.args.cells.now c.loop-v-test.false) in
    record { count = omega (arith, e, c.loop-v.invariant.0); within = omega (arith, c.loop-v.invariant.1) }
