use Rattle.record_laws.proofs.Validity.{sites_are_valid, spans_are_valid, parameters_are_valid, headers_are_valid, matrix_lines_are_valid}
use Rattle.record_laws.proofs.laws.records_are_valid.Goals as goal

pub returns : goal.returns
returns c = record { sites = sites_are_valid; spans = spans_are_valid; parameters = parameters_are_valid; headers = headers_are_valid; matrices = matrix_lines_are_valid }
