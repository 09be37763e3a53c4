use Rattle.std.proofs.Common.{refl, rules}
use Rattle.frame.specs.Headings.{heading_of}
use Rattle.frame.proofs.Squeezes.{squeezing_none, squeezing_gap, squeezing_more, squeezing_all, squeezing_space}
use Rattle.frame.proofs.line.Line.heading.Goals as goal
use Rattle.frame.proofs.line.Line.heading.Goals.{then-b-eq32, else-b-eq32}

pub loop-b-init : goal.loop-b-init
loop-b-init c = squeezing_none _

pub loop-b-preserved : goal.loop-b-preserved
loop-b-preserved c = elim c.if-b-eq32.branch [
  | then-b-eq32 w ↦ rw (w.heading-is, w.gap-is) (squeezing_gap _ c.loop-b.b-index _ _ c.loop-b-test.true w.if-b-eq32.true c.loop-b.invariant)
  | else-b-eq32 w ↦ rw (w.heading-is, w.gap-is) (squeezing_more _ c.loop-b.b-index _ _ _ _ c.loop-b-test.true refl w.if-b-eq32.false w.extend.ensures c.loop-b.invariant)
]

pub returns : goal.returns
unfolding heading_of
returns c = squeezing_all _ _ _ _ c.loop-b-test.false c.loop-b.invariant

pub extend-requires : goal.extend-requires
extend-requires c = squeezing_space _ c.loop-b.b-index _ _ _ c.loop-b-test.true (search rules) c.loop-b.invariant
