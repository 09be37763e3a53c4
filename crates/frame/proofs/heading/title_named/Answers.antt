use Rattle.std.proofs.Common.{sym, ◌∙◌, rules, tests}
use Rattle.std.proofs.lemmas.Iterator.{YieldsList-from_slice}
use Rattle.std.proofs.lemmas.Iterator.Search.{find_from_yields_List}
use Rattle.frame.specs.Headings.{first_word_is, title_named}
use Rattle.frame.specs.Titles.{titles, name_of}
use Rattle.frame.proofs.Words.{among_found}
use Rattle.frame.proofs.heading.title_named.Goals as goal

pub returns : goal.returns
unfolding title_named titles
returns c =
    c.copied.ensures
    ∙ (find_from_yields_List (λ k. first_word_is (name_of k) c.args.text.now) _ _ c.find.result c.find.ensures.ran (YieldsList-from_slice titles c.iter.ensures.rest) (λ x b q k. search (rules, tests))
    ∙ sym (among_found c.args.text.now titles))
