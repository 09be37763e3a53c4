use Rattle.std.proofs.Common.{◌≡◌, ◌+◌, ◌*◌, ◌≤◌, length}
use Rattle.std.specs.Iterator.Adapters.{take_source, take_count}
use Rattle.std.specs.Slice.Iter.{chunks_exact_rest, chunks_exact_size}
use Rattle.media.specs.Blocks.{held, block_content}
use Rattle.media.proofs.blocks.measured.Given as goal

abbrev pub invariant-loop-block : goal.invariant-loop-block
invariant-loop-block l =
    let n = take_count l.block-iterator in
    let rest = chunks_exact_rest (take_source l.block-iterator) in
    (chunks_exact_size (take_source l.block-iterator) ≡ 512)
    × (512 * n ≤ length rest)
    × (length (block_content l.raw) ≡ l.len + length (held n rest))
    × (l.len + 510 * n ≤ 510 * 196078)
