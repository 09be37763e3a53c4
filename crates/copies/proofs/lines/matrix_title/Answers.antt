use Rattle.copies.proofs.lines.matrix_title.Goals as goal
use Rattle.std.proofs.lemmas.List.{append-nil}
use Rattle.std.proofs.Common.{◌++◌, codes, ap, ◌∙◌}

pub returns : goal.returns
returns c = ap (λ w. codes "SOLUTION/MATRIX_ESTIMATE L " ++ w) (append-nil c.copy_from_slice.new.self ∙ c.copy_from_slice.ensures.after ∙ c.word.ensures)
