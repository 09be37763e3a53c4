use Rattle.std.proofs.Common.{◌≡◌, length, take, ap, ◌∙◌, arith, length-set}
use Rattle.media.specs.Blocks.{blocks, count}
use Rattle.media.proofs.Stamped.{held_none, clear_first}
use Rattle.media.proofs.blocks.clear.Goals as goal

pub returns-then-raw-ge-BLOCK : goal.returns-then-raw-ge-BLOCK
returns-then-raw-ge-BLOCK c =
    let r = c.args.raw.now in
    let e = c.write_count.ensures in
    let z : count (take 512 c.write_count.new.rest) ≡ 0 = ap (λ l. count (take 512 l)) e ∙ clear_first r (omega arith) in
    let l : length c.write_count.new.rest ≡ length r = ap length e ∙ simp length-set in
    record {
      after = held_none (blocks c.write_count.new.rest) c.write_count.new.rest z;
      kept = omega arith;
    }
