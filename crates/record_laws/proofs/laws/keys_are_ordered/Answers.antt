use Rattle.records.specs.KeyOrders.{site_keys, solution_keys, span_keys, parameter_keys}
use Rattle.record_laws.proofs.laws.keys_are_ordered.Goals as goal

pub returns : goal.returns
returns c = record { sites = site_keys; solutions = solution_keys; spans = span_keys; parameters = parameter_keys }
