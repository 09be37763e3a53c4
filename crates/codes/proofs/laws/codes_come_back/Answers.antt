use Rattle.codes.proofs.Phrases.{texts_come_back, descriptions_come_back}
use Rattle.codes.proofs.Spellings.{codes_come_back}
use Rattle.codes.proofs.laws.codes_come_back.Goals as goal

pub returns : goal.returns
returns c = record { texts = texts_come_back; descriptions = descriptions_come_back; codes = codes_come_back }
