use Rattle.decimals.proofs.Meaning.{value_is_kept, same_exactly, one_form, refused_rightly, same_deviations, deviations_refused_rightly}
use Rattle.decimals.proofs.laws.numbers_are_values.Goals as goal

pub returns : goal.returns
returns c = record { value = value_is_kept; same = same_exactly; form = one_form; refused = refused_rightly; deviations = same_deviations; below = deviations_refused_rightly }
