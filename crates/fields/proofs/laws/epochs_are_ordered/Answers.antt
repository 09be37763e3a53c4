use Rattle.fields.proofs.Stamps.{epochs_are_ordered, order_of_time}
use Rattle.fields.proofs.laws.epochs_are_ordered.Goals as goal

pub returns : goal.returns
returns c = record { order = epochs_are_ordered; time = order_of_time }
