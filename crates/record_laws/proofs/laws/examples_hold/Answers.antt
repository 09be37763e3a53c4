use Rattle.std.proofs.Common.{refl}
use Rattle.codes.specs.ParameterTypes.{types}
use Rattle.record_laws.proofs.laws.examples_hold.Goals as goal

pub returns : goal.returns
unfolding types
returns c = (refl, refl, refl, refl, refl, refl, refl)
