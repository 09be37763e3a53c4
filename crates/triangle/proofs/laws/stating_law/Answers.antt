use Rattle.triangle.proofs.Files.{each_stands, others_stay, by_index, renumbered}
use Rattle.triangle.proofs.laws.stating_law.Goals as goal

pub returns : goal.returns
returns g c = record {
  each = each_stands g.row.T.Denot g.T.Cell.is_nought;
  others = others_stay g.row.T.Denot g.T.Cell.is_nought;
  indices = by_index g.row.T.Denot g.T.Cell.is_nought;
  renumbered = renumbered;
}
