use Rattle.std.proofs.Common.{◌≡◌, ◌-◌, ◌*◌, ◌≤◌, ◌++◌}
use Rattle.headings.specs.Copies.{blanks}
use Rattle.headings.proofs.Letters.{letters_front}
use Rattle.headings.proofs.headers.write_letters.Given as goal

abbrev pub invariant-loop-i : goal.invariant-loop-i
invariant-loop-i l = (l.i ≤ 6) × (l.out ≡ letters_front l.i l.letters ++ blanks (13 - 2 * l.i))
