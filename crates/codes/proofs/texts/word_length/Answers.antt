use Rattle.std.proofs.Common.{◌≡◌, ◌≢◌, length, sym, refl, ◌∙◌, rules, tests}
use Rattle.std.proofs.lemmas.Iterator.{IsFirst-from_position, index_from_first, YieldsList-from_slice}
use Rattle.codes.specs.Text.{word}
use Rattle.codes.proofs.Words.{word_none, word_more}
use Rattle.codes.proofs.texts.word_length.Goals as goal

pub returns-clause-length : goal.returns-clause-length
returns-clause-length c =
    let s = c.args.s.now in
    let first = IsFirst-from_position _ _ _ (λ x. x ≡ 32) (λ x. x ≢ 32) c.position.ensures.ran (YieldsList-from_slice s cc) (λ x q k. search (rules, tests)) (λ x q k. search (rules, tests)) in
    c.unwrap_or.ensures ∙ sym (index_from_first (λ xs. length (word xs)) (λ x. x ≡ 32) (λ x. x ≢ 32) refl word_none word_more s c.position.result first)
