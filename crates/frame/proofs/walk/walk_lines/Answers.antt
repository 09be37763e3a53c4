use Rattle.std.proofs.Common.{◌≡◌, drop, Err, ap, ◌∙◌, arith}
use Rattle.std.proofs.lemmas.Result.{err_from_is_err_and}
use Rattle.frame.specs.Frames.{framed}
use Rattle.frame.proofs.Titled.{orderly_spacious}
use Rattle.frame.proofs.Turns.{going_all, going_more, read_within, turn_none, turn_unfit, turn_last, turn_stops}
use Rattle.frame.proofs.walk.walk_lines.Goals as goal

pub returns-in-Ok-None : goal.returns-in-Ok-None
returns-in-Ok-None g c =
    let cs = g.S.Source.content c.args.source.now in
    let p = c.loop-line.place in
    ap Err c.refuse.ensures ∙ (turn_none (drop p.byte cs) p c.loop-line.progress (rw c.in-Ok-None.field-0-is at c.in-Ok-None.ensures) ∙ going_all cs _ _ c.loop-line.invariant)

pub returns-in-Err : goal.returns-in-Err
returns-in-Err g c =
    let cs = g.S.Source.content c.args.source.now in
    let p = c.loop-line.place in
    ap Err c.refuse-in-Err.ensures ∙ (turn_unfit (drop p.byte cs) p c.loop-line.progress c.in-Err.fault c.in-Err.ensures ∙ going_all cs _ _ c.loop-line.invariant)

-- the line that was read
pub invariant_of-at : goal.invariant_of-at
invariant_of-at g c =
    let k = c.loop-line.invariant in
    let h = read_within _ _ _ k.within (rw c.in-Ok-Some.field-0-is at c.in-Ok-Some.ensures) in
    record { within = (omega (arith, k.small), k.number) }

-- after the look ahead the place is what it was
pub returns-then-is_last : goal.returns-then-is_last
returns-then-is_last g c =
    let cs = g.S.Source.content c.args.source.now in
    c.end.ensures ∙ (turn_last cs _ _ _ (rw c.in-Ok-Some.field-0-is at c.in-Ok-Some.ensures) c.if-is_last.ensures.last ∙ going_all cs _ _ c.loop-line.invariant)

pub step-requires : goal.step-requires
step-requires g c = let k = c.loop-line.invariant in orderly_spacious _ k.orderly (omega (arith, k.count, k.within, k.small))

pub returns-in_err-step-in-Ok-Some : goal.returns-in_err-step-in-Ok-Some
returns-in_err-step-in-Ok-Some g c =
    let cs = g.S.Source.content c.args.source.now in
    let all : Err c.in_err-step-in-Ok-Some.field-0.0 ≡ framed cs
    = turn_stops cs _ _ _ _ (rw c.in-Ok-Some.field-0-is at c.in-Ok-Some.ensures) c.if-is_last.ensures.last c.in_err-step-in-Ok-Some.ensures.progress ∙ going_all cs _ _ c.loop-line.invariant in
    let q = err_from_is_err_and c.from_residual.result c.from_residual.ensures.1 in
    q.1 ∙ (ap Err q.2 ∙ all)

-- one turn on
pub loop-line-preserved : goal.loop-line-preserved
loop-line-preserved g c =
    going_more _ c.loop-line.place _ c.loop-line.progress _ c.in-Ok-Some.line c.loop-line.invariant (rw c.in-Ok-Some.field-0-is at c.in-Ok-Some.ensures) c.if-is_last.ensures.last c.in_ok-step-in-Ok-Some.ensures.progress c.next-place.ensures
