use Rattle.std.proofs.Common.{length, vec_items}
use Rattle.register.specs.Views.{SameSlices, view}
use Rattle.worksheets.proofs.sheets.replay_lines.Given as goal
use Rattle.worksheets.specs.Replays.{Onward, left}
use Rattle.worksheets.specs.Sheets.{sheet_of}

abbrev pub invariant-loop-line : goal.invariant-loop-line
invariant-loop-line l = record {
  slices : SameSlices l.initial.tables l.tables;
  onward : Onward (view l.initial.register l.initial.tables) (sheet_of l.sheet) (vec_items l.initial.out) (view l.register l.tables) (left l.lines) (vec_items l.out);
}

abbrev pub decreases-loop-line : goal.decreases-loop-line
decreases-loop-line l = length l.lines.rest.now
