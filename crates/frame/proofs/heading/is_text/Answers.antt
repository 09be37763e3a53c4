use Rattle.std.proofs.Common.{rules}
use Rattle.decimals.specs.Number.{blank}
use Rattle.frame.specs.Headings.{is_text}
use Rattle.frame.proofs.Words.{stripped}
use Rattle.frame.proofs.heading.is_text.Goals as goal

pub returns : goal.returns
unfolding is_text
returns c = stripped c.args.text.now c.args.word.now blank _ _ c.strip_prefix.ensures.cases (search rules)
