use Rattle.triangle.proofs.Rules.{places}
use Rattle.triangle.proofs.laws.places_law.Goals as goal

pub returns : goal.returns
returns c = places
