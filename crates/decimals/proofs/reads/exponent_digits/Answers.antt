use Rattle.std.proofs.Common.{arith}
use Rattle.std.proofs.lemmas.Int.{ints}
use Rattle.decimals.proofs.Forms.{one_digit, two_digit}
use Rattle.decimals.proofs.reads.exponent_digits.Goals as goal

pub returns-in-48-to-57-clause-value : goal.returns-in-48-to-57-clause-value
returns-in-48-to-57-clause-value c = grind (arith, ints, one_digit)

pub returns-in-48-to-57-2-clause-value : goal.returns-in-48-to-57-2-clause-value
returns-in-48-to-57-2-clause-value c = grind (arith, ints, two_digit)
