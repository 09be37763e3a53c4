use Rattle.std.proofs.Common.{sym, ◌∙◌}
use Rattle.frame.proofs.Framing.{right_exactly}
use Rattle.frame.proofs.walk.check.Goals as goal

pub returns : goal.returns
returns g c =
    let e = c.walk_lines.ensures in
    record {
      frame = e;
      right = λ f. let k = right_exactly (g.S.Source.content c.args.source.now) f in (λ q. k.0 (sym e ∙ q), λ q. e ∙ k.1 q);
    }
