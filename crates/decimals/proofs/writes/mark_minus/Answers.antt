use Rattle.std.proofs.Common.{◌≡◌, ◌-◌, length, take, drop, set, eqb, ap, ◌∙◌, rules}
use borrow.Author.Tests.{tests}
use Rattle.std.specs.List.{prefix_len}
use Rattle.std.proofs.lemmas.List.{take_rest}
use Rattle.std.proofs.lemmas.List.Folds.{length-prefix_len}
use Rattle.std.proofs.lemmas.Iterator.{YieldsList-from_slice}
use Rattle.std.proofs.lemmas.Iterator.Consumers.{count_from_yields_List}
use Rattle.std.proofs.lemmas.Iterator.Search.{YieldsList-from_take_while}
use Rattle.decimals.proofs.Runs.{marked_is}
use Rattle.decimals.proofs.writes.mark_minus.Goals as goal

pub returns-in-len1-up : goal.returns-in-len1-up
returns-in-len1-up c =
    let s = c.args.out.now in
    let t = take (length s - 1) (drop 1 s) in
    let n : c.count-blanks.result ≡ prefix_len (λ x. eqb x 32) t =
    count_from_yields_List _ _ c.count-blanks.ensures.ran (YieldsList-from_take_while _ (λ x. eqb x 32) (YieldsList-from_slice t (cc)) c.take_while.ensures.closure c.take_while.ensures.done (λ x b q k. search (rules, tests))) ∙ length-prefix_len (λ x. eqb x 32) t in
    ap (λ k. set s k 45) (n ∙ ap (prefix_len (λ x. eqb x 32)) (take_rest s 1)) ∙ marked_is s
