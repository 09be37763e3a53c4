use Rattle.frame.proofs.Squeezes.{headed_more}
use Rattle.frame.proofs.heading.Heading.push.Goals as goal
use Rattle.std.proofs.Common.{refl}

pub returns : goal.returns
returns c = record { text = λ xs e. headed_more c.args.self.now c.args.b xs c.requires e; len = refl }
