use Rattle.copies.proofs.Present.{any_found, any_past}
use Rattle.copies.proofs.letters.any_is_of.Goals as goal
use Rattle.copies.specs.Copy.{is_of}
use Rattle.model.specs.Needs.{any_of}
use Rattle.std.proofs.lemmas.List.{drop_all}
use Rattle.std.proofs.Common.{sym, ap, ◌∙◌}

pub returns-then-is_of : goal.returns-then-is_of
returns-then-is_of c =
    sym (any_found (is_of c.args.contents) c.args.estimates.now c.loop-p.p-index _ c.loop-p-test.true (sym c.if-is_of.ensures)) ∙ c.loop-p.invariant

pub loop-p-preserved : goal.loop-p-preserved
loop-p-preserved c =
    sym (any_past (is_of c.args.contents) c.args.estimates.now c.loop-p.p-index _ c.loop-p-test.true (sym c.if-is_of.ensures)) ∙ c.loop-p.invariant

pub returns : goal.returns
returns c =
    sym (ap (any_of (is_of c.args.contents)) (drop_all c.loop-p.p-index c.args.estimates.now c.loop-p-test.false)) ∙ c.loop-p.invariant
