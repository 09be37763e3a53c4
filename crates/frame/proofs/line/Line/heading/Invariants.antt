use Rattle.frame.proofs.Squeezes.{Squeezing}
use Rattle.frame.specs.Headings.{columns}
use Rattle.frame.proofs.line.Line.heading.Given as goal

abbrev pub invariant-loop-b : goal.invariant-loop-b
invariant-loop-b l = Squeezing (columns 1 79 l.self) l.b-index l.gap l.heading
