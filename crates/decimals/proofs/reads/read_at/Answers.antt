use Rattle.std.proofs.Common.{length, arith}
use Rattle.std.proofs.lemmas.Bool.Decides.{nat_tests}
use Rattle.std.proofs.lemmas.Int.{ints}
use Rattle.decimals.specs.Number.{read_at}
use Rattle.decimals.proofs.Powers.{ten_mono}
use Rattle.decimals.proofs.reads.read_at.Goals as goal

pub scale-requires-clause-value_bound : goal.scale-requires-clause-value_bound
scale-requires-clause-value_bound c = omega (arith, ten_mono (length c.take_sign-negative.result.1.now) 21 (omega arith))

pub returns : goal.returns
unfolding read_at
returns c = grind (arith, nat_tests, ints)
