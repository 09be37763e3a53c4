use Rattle.std.proofs.Common.{drop, Some, None, sym, ap, ◌∙◌, arith}
use Rattle.frame.specs.DataLines.{Walked, walked}
use Rattle.frame.specs.Lines.{lines}
use Rattle.frame.specs.declared.place.Place.{Place}
use Rattle.frame.proofs.DataWalk.{fetched_ok, walk_turn, walk_ends, walk_stops, walk_other}
use Rattle.frame.proofs.Turns.{read_bound}
use Rattle.frame.proofs.data.next_from.Goals as goal

-- a line that does not fit
pub returns-in_err-line : goal.returns-in_err-line
returns-in_err-line g c =
    let cs = g.S.Source.content c.args.source.now in
    let e = sym c.loop-line.invariant.1 ∙ walk_stops (drop c.loop-line.place.byte cs) c.loop-line.place c.fetch.result c.ok.result c.fetch.ensures c.ok.ensures.value c.in_err-line.was in
    record { found = c.from_residual.ensures ∙ sym (ap (λ (w : Walked). w.found) e); place = sym (ap (λ (w : Walked). w.place) e) }

-- no line
pub returns : goal.returns
returns g c =
    let cs = g.S.Source.content c.args.source.now in
    let e = sym c.loop-line.invariant.1 ∙ walk_ends (drop c.loop-line.place.byte cs) c.loop-line.place (fetched_ok (drop c.loop-line.place.byte cs) c.fetch.result c.ok.result _ None c.fetch.ensures c.ok.ensures.value c.in_ok-line.was c.in_default.is) in
    record { found = sym (ap (λ (w : Walked). w.found) e); place = sym (ap (λ (w : Walked). w.place) e) }

-- a line of no kind
pub returns-in_err-kind : goal.returns-in_err-kind
returns-in_err-kind g c =
    let cs = g.S.Source.content c.args.source.now in
    let read = fetched_ok (drop c.loop-line.place.byte cs) c.fetch.result c.ok.result _ (Some c.in-Some.line) c.fetch.ensures c.ok.ensures.value c.in_ok-line.was c.in-Some.is in
    let e = sym c.loop-line.invariant.1 ∙ walk_turn cs c.loop-line.place c.in-Some.line None read (sym c.in_err-kind.was ∙ c.kind.ensures) in
    record { found = c.from_residual-in_err-kind.ensures ∙ sym (ap (λ (w : Walked). w.found) e); place = sym (ap (λ (w : Walked). w.place) e) }

pub returns-in_default-2 : goal.returns-in_default-2
returns-in_default-2 g c =
    let cs = g.S.Source.content c.args.source.now in
    let read = fetched_ok (drop c.loop-line.place.byte cs) c.fetch.result c.ok.result _ (Some c.in-Some.line) c.fetch.ensures c.ok.ensures.value c.in_ok-line.was c.in-Some.is in
    let e = sym c.loop-line.invariant.1 ∙ (walk_turn cs c.loop-line.place c.in-Some.line _ read (sym c.in_ok-kind.was ∙ c.kind.ensures)
    ∙ walk_other c.in_ok-kind.field-0 _ _ _ c.in_default-2.not-Data c.in_default-2.not-Comment) in
    record { found = sym (ap (λ (w : Walked). w.found) e); place = sym (ap (λ (w : Walked). w.place) e) }

pub invariant_of-at : goal.invariant_of-at
invariant_of-at g c =
    let cs = g.S.Source.content c.args.source.now in
    let read = fetched_ok (drop c.loop-line.place.byte cs) c.fetch.result c.ok.result _ (Some c.in-Some.line) c.fetch.ensures c.ok.ensures.value c.in_ok-line.was c.in-Some.is in
    let h = read_bound cs c.loop-line.place.byte c.in-Some.line read in
    record { within = (omega (arith, h.1, c.requires.small), omega (arith, c.loop-line.invariant.0)) }

pub invariant_of-at-in-Comment : goal.invariant_of-at-in-Comment
invariant_of-at-in-Comment g c =
    let cs = g.S.Source.content c.args.source.now in
    let read = fetched_ok (drop c.loop-line.place.byte cs) c.fetch.result c.ok.result _ (Some c.in-Some.line) c.fetch.ensures c.ok.ensures.value c.in_ok-line.was c.in-Some.is in
    let h = read_bound cs c.loop-line.place.byte c.in-Some.line read in
    record { within = (omega (arith, h.1, c.requires.small), omega (arith, c.loop-line.invariant.0)) }

pub returns-in-Data : goal.returns-in-Data
returns-in-Data g c =
    let cs = g.S.Source.content c.args.source.now in
    let read = fetched_ok (drop c.loop-line.place.byte cs) c.fetch.result c.ok.result _ (Some c.in-Some.line) c.fetch.ensures c.ok.ensures.value c.in_ok-line.was c.in-Some.is in
    let e = sym c.loop-line.invariant.1 ∙ walk_turn cs c.loop-line.place c.in-Some.line _ read (ap Some (sym c.in-Data.is) ∙ (sym c.in_ok-kind.was ∙ c.kind.ensures)) in
    record { found = sym (ap (λ (w : Walked). w.found) e); place = c.next.ensures ∙ sym (ap (λ (w : Walked). w.place) e) }

pub loop-line-preserved : goal.loop-line-preserved
loop-line-preserved g c =
    let cs = g.S.Source.content c.args.source.now in
    let read = fetched_ok (drop c.loop-line.place.byte cs) c.fetch.result c.ok.result _ (Some c.in-Some.line) c.fetch.ensures c.ok.ensures.value c.in_ok-line.was c.in-Some.is in
    let b = ap (λ (q : Place). q.byte) c.next-in-Comment.ensures in
    let l = ap (λ (q : Place). q.line) c.next-in-Comment.ensures in (
      omega (arith, b, l, c.loop-line.invariant.0),
      ap (λ (q : Place). walked q (lines (drop q.byte cs))) c.next-in-Comment.ensures
          ∙ (sym (walk_turn cs c.loop-line.place c.in-Some.line _ read (ap Some (sym c.in-Comment.is) ∙ (sym c.in_ok-kind.was ∙ c.kind.ensures))) ∙ c.loop-line.invariant.1),
    )
