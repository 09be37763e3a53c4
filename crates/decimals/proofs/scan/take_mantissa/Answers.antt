use Rattle.std.proofs.Common.{◌*◌, ◌^◌, length, le_trans, arith}
use Rattle.std.proofs.lemmas.List.{length-drop, take_rest}
use Rattle.decimals.proofs.Powers.{ten_mono, room}
use Rattle.decimals.proofs.Forms.{tail}
use Rattle.decimals.proofs.scan.take_mantissa.Goals as goal

pub digits-whole-requires : goal.digits-whole-requires
digits-whole-requires c = omega (arith, ten_mono (length c.args.s.now) 21 c.requires)

pub digits-part-requires : goal.digits-part-requires
digits-part-requires c =
    let u = c.digits-whole.result.rest.now in
    room c.digits-whole.result.value (length (tail u)) (length u) (2 ^ 127) (simp (take_rest, length-drop) (omega arith))
    (le_trans c.digits-whole.ensures.bound (omega (arith, ten_mono (length c.args.s.now) 21 c.requires)))

pub returns-in-46-clause-tight : goal.returns-in-46-clause-tight
returns-in-46-clause-tight c =
    let u = c.digits-whole.result.rest.now in
    let b = room c.digits-whole.result.value (length (tail u)) (length u) (1 * 10 ^ length c.args.s.now) (simp (take_rest, length-drop) (omega arith)) c.digits-whole.ensures.bound in
    omega (arith, room c.digits-part.result.value 0 (length c.digits-part.result.rest.now) (1 * 10 ^ length c.args.s.now) (omega arith) (le_trans c.digits-part.ensures.bound b))

pub returns-in_default-clause-tight : goal.returns-in_default-clause-tight
returns-in_default-clause-tight c = omega (arith, room c.digits-whole.result.value 0 (length c.digits-whole.result.rest.now) (1 * 10 ^ length c.args.s.now) (omega arith) c.digits-whole.ensures.bound)
