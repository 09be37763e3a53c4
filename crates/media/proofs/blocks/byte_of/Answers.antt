use Rattle.std.proofs.Common.{sym, arith}
use Rattle.media.proofs.Held.{place_in, content_at, content_bound}
use Rattle.media.proofs.blocks.byte_of.Goals as goal

pub overflow_mul-result : goal.overflow_mul-result
overflow_mul-result c = omega (arith, content_bound c.args.raw.now)

pub overflow_add-result-2 : goal.overflow_add-result-2
overflow_add-result-2 c = omega (arith, content_bound c.args.raw.now)

pub bounds-raw-place : goal.bounds-raw-place
bounds-raw-place c = place_in c.args.raw.now c.args.place c.requires

pub returns : goal.returns
returns c = sym (content_at c.args.raw.now c.args.place c.requires)
