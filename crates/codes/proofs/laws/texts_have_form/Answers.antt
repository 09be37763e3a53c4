use Rattle.codes.proofs.Phrases.{texts_have_form, descriptions_have_form}
use Rattle.codes.proofs.laws.texts_have_form.Goals as goal

pub returns : goal.returns
returns c = record { texts = texts_have_form; descriptions = descriptions_have_form }
