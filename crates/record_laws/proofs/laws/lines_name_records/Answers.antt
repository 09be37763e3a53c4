use Rattle.record_laws.proofs.Naming.{sites_are_named, spans_are_named, parameters_are_named}
use Rattle.record_laws.proofs.laws.lines_name_records.Goals as goal

pub returns : goal.returns
returns c = record { sites = sites_are_named; spans = spans_are_named; parameters = parameters_are_named }
