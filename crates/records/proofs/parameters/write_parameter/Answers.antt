use Rattle.std.proofs.Common.{[], ◌∷◌, refl, ◌∙◌}
use Rattle.headings.specs.Copies.{blanks}
use Rattle.headings.proofs.Parts.{same-joined}
use Rattle.records.specs.Copies.{parameter_parts}
use Rattle.records.proofs.parameters.write_parameter.Goals as goal

pub returns : goal.returns
returns c = same-joined (blanks 1 ∷ c.copy_from_slice-4.new.self ∷ c.copy_from_slice-3.new.self ∷ blanks 1 ∷ c.copy_from_slice-2.new.self ∷ blanks 1 ∷ c.copy_from_slice.new.self ∷ []) (parameter_parts c.args.index c.args.p.now)
    (refl, (c.copy_from_slice-4.ensures.after ∙ c.write_index.ensures, (c.copy_from_slice-3.ensures.after ∙ c.write_parameter_columns.ensures, (refl, (c.copy_from_slice-2.ensures.after ∙ c.unit_of.ensures, (refl, (c.copy_from_slice.ensures.after ∙ c.write_measure.ensures, tt)))))))
