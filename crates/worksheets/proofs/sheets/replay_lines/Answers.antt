use Rattle.register.specs.Views.{view}
use Rattle.std.proofs.lemmas.Result.{on_ok_weaker}
use Rattle.std.proofs.Common.{vec_items, sym, ◌∙◌}
use Rattle.worksheets.proofs.Ways.{called, first_line_lem, onward, slices-on, unclear}
use Rattle.worksheets.proofs.sheets.replay_lines.Goals as goal
use Rattle.worksheets.specs.Replays.{left, lines_left, stated}
use Rattle.worksheets.specs.Sheets.{Done, sheet_of}

pub loop-line-preserved : goal.loop-line-preserved
loop-line-preserved c =
    let x = view c.loop-line.register c.loop-line.tables in
    let y = c.next_line.new.self in
    let next = c.request_of.new.lines in
    let line = c.in-Some.ensures in
    let head = first_line_lem c.loop-line.lines.taken y.taken c.in-Some.line.now (lines_left y) (lines_left c.loop-line.lines) line.line line.taken in
    record {
      slices = slices-on _ _ _ c.loop-line.invariant.slices c.perform.ensures.slices;
      onward = onward (view c.args.register.now c.args.tables.now) x _ (sheet_of c.args.sheet.now) (left c.loop-line.lines) (left next) (vec_items c.args.out.now) _ _ c.loop-line.invariant.onward
          (called (stated c.in-Ok.request) x _ c.perform.result (left c.loop-line.lines) (left next) (vec_items c.loop-line.out) _ c.perform.ensures.obeys (head ∙ sym c.in-Ok.ensures.read) c.in_ok-put_answer-in-Ok.ensures);
    }

pub returns-in-Err-clause-onward : goal.returns-in-Err-clause-onward
returns-in-Err-clause-onward c =
    let x = view c.loop-line.register c.loop-line.tables in
    let y = c.next_line.new.self in
    let line = c.in-Some.ensures in
    let head = first_line_lem c.loop-line.lines.taken y.taken c.in-Some.line.now (lines_left y) (lines_left c.loop-line.lines) line.line line.taken in
    on_ok_weaker c.put_unclear.result
    (λ m. onward (view c.args.register.now c.args.tables.now) x x (sheet_of c.args.sheet.now) (left c.loop-line.lines) Done (vec_items c.args.out.now) _ _ c.loop-line.invariant.onward
    (unclear x c.in-Err.number (left c.loop-line.lines) (vec_items c.loop-line.out) _ (head ∙ sym c.in-Err.ensures.read) m))
    c.put_unclear.ensures
