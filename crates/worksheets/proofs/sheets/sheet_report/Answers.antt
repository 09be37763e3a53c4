use Rattle.std.proofs.lemmas.Result.{IfOk-weaker}
use Rattle.worksheets.proofs.Ways.{reported, slices-on, unmade}
use Rattle.worksheets.proofs.sheets.sheet_report.Goals as goal
use Rattle.std.proofs.Common.{◌∙◌}

pub returns-in-Ok : goal.returns-in-Ok
returns-in-Ok c = record {
  report = IfOk-weaker c.replay.result _ _ (λ v. reported c.args.tables.now _ c.in-Ok.register c.args.sheet.now _ _ c.in-Ok.ensures) c.replay.ensures.replays;
  slices = slices-on _ _ _ c.make.ensures.slices c.replay.ensures.slices;
}

pub returns-in-Err : goal.returns-in-Err
returns-in-Err c = record {
  report = IfOk-weaker c.to_vec.result _ _
      (λ v h. h (λ x y e. e) ∙ (c.refusal_line.ensures ∙ unmade c.args.tables.now c.make.new.tables c.in-Err.refusal c.args.sheet.now c.in-Err.ensures)) c.to_vec.ensures.items_if_clones_equal;
  slices = c.make.ensures.slices;
}
