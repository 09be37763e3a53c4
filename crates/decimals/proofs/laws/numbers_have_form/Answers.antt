use Rattle.decimals.proofs.Shapes.{numbers_have_form}
use Rattle.decimals.proofs.Wrong.{wrong_exactly}
use Rattle.decimals.proofs.laws.numbers_have_form.Goals as goal

pub returns : goal.returns
returns c = record { form = numbers_have_form; wrong = wrong_exactly }
