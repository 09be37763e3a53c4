-- The blocks of a file, in the places of a frame.
use Rattle.std.specs.Prelude.{ℕ, List, length, None}
use Rattle.frame.specs.Lines.{padded}
use Rattle.frame.specs.declared.title.Title.TheVariants.{FileReference}
use Rattle.frame.specs.declared.walk.Block.{Block}
use Rattle.frame.specs.declared.walk.Frame.{Frame}

abbrev pub no_block : Block
no_block = record { caption = record { title = FileReference; form = None }; start = record { byte = 0; line = 0 }; body = record { byte = 0; line = 0 }; data_lines = 0; end = 0 }

abbrev pub frame_as : List Block → ℕ → Frame
frame_as bs n = record { blocks = padded no_block 26 bs; count = length bs; lines = n }
