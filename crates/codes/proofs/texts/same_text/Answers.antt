use Rattle.std.proofs.Common.{◌∙◌}
use Rattle.std.specs.Cmp.Lexicographic.{texts_ties}
use Rattle.codes.proofs.texts.same_text.Goals as goal

pub returns : goal.returns
returns c = c.eq.ensures ∙ texts_ties c.args.a.now c.args.b.now
