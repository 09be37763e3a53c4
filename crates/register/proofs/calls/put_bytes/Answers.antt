use Rattle.model.proofs.Laying.{data_line_printable}
use Rattle.model.proofs.Steps.{does_then_ok, obeys_does, obeys_strange}
use Rattle.model.specs.Edits.{Put, put_line}
use Rattle.model.specs.Handed.{data_line}
use Rattle.register.proofs.Carried.{slices_refl}
use Rattle.register.proofs.calls.put_bytes.Goals as goal
use Rattle.register.specs.Views.{view}
use Rattle.std.proofs.Common.{sym, ◌∙◌}

pub returns-then-not-is_own : goal.returns-then-not-is_own
returns-then-not-is_own c =
    let x = view c.args.register.now c.args.tables.now in
    record {
      obeys = obeys_strange (Put c.args.sort c.args.bytes.now) x (sym c.if-not-is_own.ensures);
      slices = slices_refl c.args.tables.now;
    }

pub put_line-requires : goal.put_line-requires
put_line-requires c = data_line_printable c.args.bytes.now c.in_ok-line.line (sym c.data_line.ensures ∙ c.in_ok-line.was)

pub returns : goal.returns
returns c =
    let x = view c.args.register.now c.args.tables.now in
    let done = c.put_line.ensures in
    let line = sym c.data_line.ensures ∙ c.in_ok-line.was in
    let does = does_then_ok (data_line c.args.bytes.now) (put_line c.args.sort) c.in_ok-line.line x _ _ line done.0 in
    record {
      obeys = obeys_does (Put c.args.sort c.args.bytes.now) x _ _ (sym c.if-not-is_own.ensures) does;
      slices = done.1;
    }
