use Rattle.fields.proofs.Columns.{widths_are_exact}
use Rattle.fields.proofs.Degrees.{counts_come_back, longitudes_come_back, latitudes_come_back, heights_come_back}
use Rattle.fields.proofs.Stamps.{epochs_come_back, moments_come_back}
use Rattle.fields.proofs.laws.fields_come_back.Goals as goal

pub returns : goal.returns
returns c = record {
  epochs = epochs_come_back;
  moments = moments_come_back;
  counts = counts_come_back;
  longitudes = longitudes_come_back;
  latitudes = latitudes_come_back;
  heights = heights_come_back;
  widths = widths_are_exact;
}
