use Rattle.std.proofs.Common.{rules}
use Rattle.reports.proofs.Adds.{lines_found}
use Rattle.reports.proofs.files.data_lines_of.Goals as goal

pub returns : goal.returns
returns c = lines_found c.args.title c.args.blocks.now c.block_of.result _ c.block_of.ensures (search rules)
