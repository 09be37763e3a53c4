use Rattle.reports.proofs.frames.put_blocks.Given as goal
use Rattle.reports.specs.FrameReport.{block_lines}
use Rattle.std.proofs.Common.{◌≡◌, ◌++◌, drop, vec_items}

abbrev pub invariant-loop-block : goal.invariant-loop-block
invariant-loop-block g l = vec_items l.out ++ block_lines (g.S.Source.content l.source) (drop l.block-index l.blocks) ≡ vec_items l.initial.out ++ block_lines (g.S.Source.content l.source) l.blocks
