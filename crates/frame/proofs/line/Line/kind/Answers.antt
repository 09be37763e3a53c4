use Rattle.std.proofs.Common.{rules}
use Rattle.frame.specs.Lines.{kind_of}
use Rattle.frame.proofs.line.Line.kind.Goals as goal

pub returns-then-self-eq0 : goal.returns-then-self-eq0
unfolding kind_of
returns-then-self-eq0 c = search rules

pub returns : goal.returns
unfolding kind_of
returns c = search rules
