use Rattle.std.proofs.Common.{sym, ap, length, arith, length-append}
use Rattle.std.specs.Iterator.Adapters.{take_source, take_count}
use Rattle.std.specs.Slice.Iter.{chunks_exact_rest}
use Rattle.media.proofs.Held.{scan_stop, scan_on}
use Rattle.media.proofs.blocks.measured.Goals as goal

pub loop-block-preserved : goal.loop-block-preserved
loop-block-preserved c =
    let s = c.in-Some.ensures.steps in
    let b = c.in-Some.block.now in
    let r = chunks_exact_rest (take_source c.next.new.self) in
    let e = scan_on _ (take_count c.next.new.self) _ _ b r (sym s.1) s.0.1.0 (omega arith) c.whole_count-k.ensures.value (omega arith) in
    let l = ap length s.0.1.0 in
    (omega arith, omega (arith, length-append b r), omega arith, omega arith)

pub returns-then-k-lt-PAYLOAD : goal.returns-then-k-lt-PAYLOAD
returns-then-k-lt-PAYLOAD c =
    let s = c.in-Some.ensures.steps in
    let e = scan_stop _ (take_count c.next.new.self) _ _ c.in-Some.block.now (chunks_exact_rest (take_source c.next.new.self)) (sym s.1) s.0.1.0 (omega arith) c.whole_count-k.ensures.value c.if-k-lt-PAYLOAD.true in
    omega arith
