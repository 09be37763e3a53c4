use Rattle.std.proofs.Common.{◌≡◌, drop, eqb, sym, ap, ◌∙◌, rules}
use borrow.Author.Tests.{tests}
use Rattle.std.specs.List.{prefix_len}
use Rattle.std.proofs.lemmas.List.{take_rest}
use Rattle.std.proofs.lemmas.List.Folds.{length-prefix_len}
use Rattle.std.proofs.lemmas.Iterator.{YieldsList-from_slice}
use Rattle.std.proofs.lemmas.Iterator.Consumers.{count_from_yields_List}
use Rattle.std.proofs.lemmas.Iterator.Search.{YieldsList-from_take_while}
use Rattle.decimals.proofs.Blanks.{unblank-drop}
use Rattle.decimals.proofs.scan.skip_blanks.Goals as goal

pub returns-clause-rest : goal.returns-clause-rest
returns-clause-rest c =
    let s = c.args.s.now in
    let n : c.count-blanks.result ≡ prefix_len (λ x. eqb x 32) s =
    count_from_yields_List _ _ c.count-blanks.ensures.ran (YieldsList-from_take_while _ (λ x. eqb x 32) (YieldsList-from_slice s (cc)) c.take_while.ensures.closure c.take_while.ensures.done (λ x b q k. search (rules, tests))) ∙ length-prefix_len (λ x. eqb x 32) s in
    take_rest s c.count-blanks.result ∙ (ap (λ k. drop k s) n ∙ sym (unblank-drop s))
