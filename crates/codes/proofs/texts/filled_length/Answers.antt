use Rattle.std.proofs.Common.{rules}
use Rattle.codes.proofs.Words.{filled_is}
use Rattle.codes.proofs.texts.filled_length.Goals as goal

pub returns-clause-length : goal.returns-clause-length
returns-clause-length c = filled_is c.args.s.now c.map_or.result (search rules) (λ k a b. search rules) (λ k a b. search rules)
