use Rattle.std.proofs.Common.{length, arith}
use Rattle.decimals.proofs.Fixed.{fixed_more, quotient_more}
use Rattle.decimals.proofs.writes.put_digits.Goals as goal

pub loop-i-preserved : goal.loop-i-preserved
loop-i-preserved c = (
  omega arith,
  fixed_more c.loop-i.out (length c.args.out.now) c.loop-i.i c.args.m c.loop-i.rest c.loop-i.auto.out (omega arith) (omega arith) c.loop-i.invariant.1 c.loop-i.invariant.2,
  quotient_more (length c.args.out.now) c.loop-i.i c.args.m c.loop-i.rest (omega arith) (omega arith) c.loop-i.invariant.2,
)
