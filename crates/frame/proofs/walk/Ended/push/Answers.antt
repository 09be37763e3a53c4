use Rattle.frame.proofs.Pads.{pushed}
use Rattle.frame.specs.Blocks.{no_block}
use Rattle.frame.proofs.walk.Ended.push.Goals as goal

pub invariant_of-self : goal.invariant_of-self
invariant_of-self c =
    let inside = c.self.inside in
    pushed no_block 26 inside.blocks inside.count c.args.block c.self.invariant.0 c.self.invariant.1 (rw c.self.view_is c.requires)
