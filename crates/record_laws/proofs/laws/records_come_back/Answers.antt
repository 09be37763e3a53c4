use Rattle.record_laws.proofs.ComeBack.{sites_come_back, spans_come_back, parameters_come_back, headers_come_back, cells_come_back}
use Rattle.record_laws.proofs.laws.records_come_back.Goals as goal

pub returns : goal.returns
returns c = record { sites = sites_come_back; spans = spans_come_back; parameters = parameters_come_back; headers = headers_come_back; cells = cells_come_back }
