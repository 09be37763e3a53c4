use Rattle.std.proofs.Common.{◌≡◌, length, take, sym, refl, ap, ◌∙◌, arith}
use Rattle.copies.proofs.Present.{noted_more, noted_same, order}
use Rattle.copies.proofs.letters.contents_of.Goals as goal
use Rattle.copies.proofs.letters.contents_of.Goals.{then-any_is_of, else-any_is_of}
use Rattle.copies.specs.Copy.{present, six_places}

pub loop-i-init : goal.loop-i-init
loop-i-init c = record { places = refl; count = refl; few = omega arith }

pub loop-i-preserved : goal.loop-i-preserved
loop-i-preserved c =
    let es = c.args.estimates.now in
    let i = c.loop-i.i in
    elim c.if-any_is_of.branch [
      | then-any_is_of w ↦
          rw (w.places-is, w.count-is)
          (noted_more es i c.loop-i.places c.loop-i.count _ c.loop-i-test.true c.loop-i.invariant (sym c.any_is_of.ensures ∙ w.if-any_is_of.true))
      | else-any_is_of w ↦
          rw (w.places-is, w.count-is)
          (noted_same es i c.loop-i.places c.loop-i.count _ c.loop-i-test.true c.loop-i.invariant (sym c.any_is_of.ensures ∙ w.if-any_is_of.false))
    ]

pub returns : goal.returns
returns c =
    let n = c.loop-i.invariant in
    let e : c.loop-i.i ≡ 5 = omega arith in
    let es = c.args.estimates.now in
    record {
      places = n.places ∙ ap (λ i. six_places (present es (take i order))) e;
      count = n.count ∙ ap (λ i. length (present es (take i order))) e;
      few = omega (arith, n.few);
    }
