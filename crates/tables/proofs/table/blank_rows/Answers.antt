use Rattle.std.proofs.Common.{replicate, ap, ◌∙◌, rules}
use Rattle.tables.proofs.Shifts.{filled_with}
use Rattle.tables.proofs.table.blank_rows.Goals as goal

pub returns : goal.returns
returns g c =
    let (last, ran) = c.fill_with.ensures.ran in
    filled_with _ g.R.Record.bare (λ f h x e. let met = e.met in search rules) _ last c.fill_with.new.self ran ∙ ap (λ n. replicate n g.R.Record.bare) c.fill_with.ensures.len
