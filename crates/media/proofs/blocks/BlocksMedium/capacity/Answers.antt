use Rattle.std.proofs.Common.{arith}
use Rattle.media.proofs.Held.{content_bound}
use Rattle.media.proofs.blocks.BlocksMedium.capacity.Goals as goal

pub returns-clause-holds : goal.returns-clause-holds
returns-clause-holds c = omega (arith, content_bound c.args.self.now.raw.now)
