use Rattle.std.proofs.Common.{◌≡◌, eqb, sym, ◌∙◌, rules, tests}
use Rattle.std.proofs.lemmas.Iterator.{YieldsList-from_slice}
use Rattle.std.proofs.lemmas.Iterator.Search.{find_from_yields_List}
use Rattle.frame.specs.Titles.{place_of}
use Rattle.frame.specs.contracts.title.TitlePartialEq.TheImpl.{ghosts}
use Rattle.frame.proofs.Titled.{block_found, same_place}
use Rattle.frame.proofs.walk.block_of.Goals as goal

pub returns : goal.returns
returns c =
    find_from_yields_List (λ b. eqb (place_of b.caption.title) (place_of c.args.title)) _ _ c.find.result c.find.ensures.ran (YieldsList-from_slice _ c.iter.ensures.rest)
    (λ x b q k. (search (rules, tests), let e : b ≡ ghosts.eq x.now.caption.title c.args.title = search (rules, tests) in e ∙ same_place _ _))
    ∙ sym (block_found c.args.title c.args.blocks.now)
