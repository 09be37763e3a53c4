use Rattle.decimals.proofs.Meaning.{numbers_come_back, deviations_come_back}
use Rattle.decimals.proofs.laws.numbers_come_back.Goals as goal

pub returns : goal.returns
returns c = record { numbers = numbers_come_back; deviations = deviations_come_back }
