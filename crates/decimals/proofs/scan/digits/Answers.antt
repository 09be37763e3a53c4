use Rattle.std.proofs.Common.{◌^◌, length, sym, ◌∙◌, le_trans, arith}
use Rattle.decimals.proofs.Powers.{room}
use Rattle.decimals.proofs.Fronts.{digit_first}
use Rattle.decimals.proofs.scan.digits.Goals as goal

pub overflow_mul-value : goal.overflow_mul-value
overflow_mul-value c = omega (arith, room c.loop-rest.value 1 (length c.loop-rest.rest.now) (2 ^ 127) (omega arith) (le_trans c.loop-rest.invariant.4 c.requires))

pub overflow_add-value : goal.overflow_add-value
overflow_add-value c = omega (arith, room c.loop-rest.value 1 (length c.loop-rest.rest.now) (2 ^ 127) (omega arith) (le_trans c.loop-rest.invariant.4 c.requires))

pub loop-rest-preserved : goal.loop-rest-preserved
loop-rest-preserved c =
    let t = digit_first c.loop-rest.value c.from.result c.loop-rest.rest.now (omega arith) (omega arith) (omega arith) c.from.ensures in
    (sym t.0 ∙ c.loop-rest.invariant.0, omega arith, sym t.2 ∙ c.loop-rest.invariant.2, omega arith, le_trans t.4 c.loop-rest.invariant.4)
