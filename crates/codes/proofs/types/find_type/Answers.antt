use Rattle.std.proofs.Common.{◌∙◌, rules, tests}
use Rattle.std.proofs.lemmas.Iterator.{YieldsList-from_slice}
use Rattle.std.proofs.lemmas.Iterator.Search.{find_from_yields_List}
use Rattle.codes.specs.Order.{same_text}
use Rattle.codes.specs.ParameterTypes.{types}
use Rattle.codes.specs.declared.types.ParameterType.{ParameterType}
use Rattle.codes.proofs.types.find_type.Goals as goal

pub returns : goal.returns
unfolding types
returns c =
    let found = find_from_yields_List (λ (t : ParameterType). same_text c.args.name.now t.name) _ _ c.find.result c.find.ensures.ran (YieldsList-from_slice types cc) (λ x b q k. search (rules, tests)) in
    c.copied.ensures ∙ found
