use Rattle.std.proofs.Common.{Bool, ◌&&◌, [], ◌∷◌, length, ap, ◌∙◌, rules}
use Rattle.frame.specs.Headings.{begins, first_word_is}
use Rattle.frame.proofs.Words.{blank_first, stripped}
use Rattle.frame.proofs.heading.has_first_word.Goals as goal

pub returns : goal.returns
unfolding first_word_is
returns c =
    let text = c.args.text.now in
    let word = c.args.word.now in
    stripped text word (λ rest. begins rest (32 ∷ [])) _ _ c.strip_prefix.ensures.cases (search rules)
    ∙ ap (λ (b : Bool). begins text word && b) (blank_first (length word) text)
