use Rattle.codes.proofs.TypeTable.{types_come_back, types_are_named, types_are_texts}
use Rattle.codes.proofs.laws.types_are_a_table.Goals as goal

pub returns : goal.returns
returns c = record { found = types_come_back; named = types_are_named; texts = types_are_texts }
