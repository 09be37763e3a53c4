use Rattle.std.proofs.Common.{[], ◌∷◌, refl, ◌∙◌}
use Rattle.headings.specs.Copies.{blanks, agencies_parts}
use Rattle.headings.proofs.Parts.{same-joined}
use Rattle.headings.proofs.headers.write_agencies.Goals as goal

pub returns : goal.returns
returns c = same-joined (blanks 1 ∷ c.copy_from_slice-3.new.self ∷ blanks 1 ∷ c.copy_from_slice-2.new.self ∷ blanks 1 ∷ c.copy_from_slice.new.self ∷ []) (agencies_parts c.args.h.now)
    (refl, (c.copy_from_slice-3.ensures.after, (refl, (c.copy_from_slice-2.ensures.after ∙ c.write_moment.ensures, (refl, (c.copy_from_slice.ensures.after, tt))))))
