use Rattle.std.proofs.Common.{[], ◌∷◌, refl, ap, ◌∙◌}
use Rattle.headings.specs.Copies.{blanks, header_parts}
use Rattle.headings.proofs.Parts.{same-joined}
use Rattle.headings.proofs.headers.write_header.Goals as goal

pub returns : goal.returns
returns c = same-joined (c.copy_from_slice-5.new.self ∷ c.copy_from_slice-4.new.self ∷ c.copy_from_slice-3.new.self ∷ blanks 1 ∷ (c.letter.result ∷ []) ∷ blanks 1 ∷ c.copy_from_slice-2.new.self ∷ blanks 1 ∷ (c.digit.result ∷ []) ∷ c.copy_from_slice.new.self ∷ []) (header_parts c.args.h.now c.args.count c.args.letters.now)
    (c.copy_from_slice-5.ensures.after, (c.copy_from_slice-4.ensures.after ∙ c.write_agencies.ensures, (c.copy_from_slice-3.ensures.after ∙ c.write_period.ensures, (refl, (ap (λ t. t ∷ []) c.letter.ensures, (refl, (c.copy_from_slice-2.ensures.after ∙ c.write_count.ensures, (refl, (ap (λ t. t ∷ []) c.digit.ensures, (c.copy_from_slice.ensures.after ∙ c.write_letters.ensures, tt))))))))))
