use Rattle.codes.proofs.Comparing.{lex_order}
use Rattle.codes.proofs.laws.texts_are_ordered.Goals as goal

pub returns : goal.returns
returns c = lex_order
