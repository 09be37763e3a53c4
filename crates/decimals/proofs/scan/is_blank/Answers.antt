use Rattle.std.proofs.Common.{eqb, sym, ◌∙◌, rules}
use borrow.Author.Tests.{tests}
use Rattle.std.proofs.lemmas.Iterator.{YieldsList-from_slice}
use Rattle.std.proofs.lemmas.Iterator.Search.{all_from_yields_List}
use Rattle.decimals.proofs.Blanks.{blank_all}
use Rattle.decimals.proofs.scan.is_blank.Goals as goal

pub returns : goal.returns
returns c =
    all_from_yields_List (λ x. eqb x 32) _ _ _ c.all.ensures.ran (YieldsList-from_slice c.args.s.now (cc)) (λ x b q k. search (rules, tests))
    ∙ sym (blank_all c.args.s.now)
