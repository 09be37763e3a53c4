use Rattle.std.proofs.Common.{sym, ◌∙◌, rules, tests}
use Rattle.codes.specs.Order.{same_text}
use Rattle.std.proofs.lemmas.Iterator.{YieldsList-from_slice}
use Rattle.std.proofs.lemmas.Iterator.Search.{find_from_yields_List}
use Rattle.worksheets.specs.Commands.{commands, spelled}
use Rattle.worksheets.proofs.Spelling.{spelled_found, spells}
use Rattle.worksheets.proofs.commands.read_command.Goals as goal

pub returns : goal.returns
returns c =
    let line = c.args.line.now in
    let found = c.copied.ensures
    ∙ (find_from_yields_List (λ k. same_text line (spelled k)) _ _ c.find.result c.find.ensures.ran (YieldsList-from_slice commands c.iter.ensures.rest) (λ x b q k. search (rules, tests))
    ∙ sym (spelled_found line commands)) in
    record { value = found; spells = spells line c.copied.result found }
