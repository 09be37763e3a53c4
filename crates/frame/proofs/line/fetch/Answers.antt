use Rattle.std.proofs.Common.{◌<◌, length, sym, arith}
use Rattle.frame.proofs.Walks.{copied_more, fetched-long}
use Rattle.frame.proofs.line.fetch.Goals as goal
use Rattle.frame.proofs.line.fetch.Goals.{Joined-byte, in-Some+then-b-eq10, in_default}

pub returns-then-len-eq80 : goal.returns-then-len-eq80
returns-then-len-eq80 g c =
    let cs = g.S.Source.content c.args.source.now in
    let h : c.args.at < length cs = omega arith in
    fetched-long cs c.args.at c.loop-b.len c.in-Some.b _ h c.loop-b.invariant (sym c.in-Some.ensures) c.if-b-eq10.false c.if-len-eq80.true

pub loop-b-preserved : goal.loop-b-preserved
loop-b-preserved g c = copied_more _ _ _ _ _ c.loop-b.invariant (sym c.in-Some.ensures) c.if-b-eq10.false c.if-len-eq80.false
