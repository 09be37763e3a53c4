use Rattle.std.proofs.Common.{◌≡◌, length, take, drop, ap, ◌∙◌, arith, length-set}
use Rattle.media.specs.Blocks.{held}
use Rattle.media.proofs.Stamped.{stamped_take, stamped_holds, held_none, cleared_next}
use Rattle.media.proofs.blocks.stamp.Goals as goal

pub returns-then-m-gt1 : goal.returns-then-m-gt1
returns-then-m-gt1 c =
    let rest = c.args.rest.now in
    let r = c.write_count.new.rest in
    let o = c.args.o in
    let b = c.args.b in
    let len : length r ≡ length rest = ap length c.write_count.ensures ∙ simp length-set in
    let z = cleared_next r c.write_count-then-m-gt1.new.rest (omega arith) c.write_count-then-m-gt1.ensures in
    stamped_holds c.args.m o b rest _ (omega arith) (omega arith) (omega arith)
    (z.0 ∙ ap (λ l. take 512 l) c.write_count.ensures ∙ stamped_take o b rest (omega arith)) c.requires.clear (λ n _. held_none n _ z.1)

pub returns-else-m-gt1 : goal.returns-else-m-gt1
returns-else-m-gt1 c =
    let rest = c.args.rest.now in
    let o = c.args.o in
    let b = c.args.b in
    let e = ap (λ l. take 512 l) c.write_count.ensures ∙ stamped_take o b rest (omega arith) in
    stamped_holds c.args.m o b rest c.write_count.new.rest (omega arith) (omega arith) (omega arith) e c.requires.clear
    (λ n k. let z : n ≡ 0 = omega arith in ap (λ i. held i (drop 512 c.write_count.new.rest)) z)
