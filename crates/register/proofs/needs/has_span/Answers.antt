use Rattle.register.proofs.needs.has_span.Goals as goal
use Rattle.model.specs.Needs.{span_at}
use Rattle.std.proofs.Common.{rules}

pub returns : goal.returns
returns c = c.any_used.ensures (span_at c.args.key.now) (record { each = λ x b h. search rules })
