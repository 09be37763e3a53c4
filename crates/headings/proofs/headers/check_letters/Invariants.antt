use Rattle.std.proofs.Common.{◌≡◌}
use Rattle.codes.specs.Text.{check_blank}
use Rattle.fields.specs.Angle.{columns}
use Rattle.headings.specs.Headers.{check_letters}
use Rattle.headings.proofs.Letters.{check_places}
use Rattle.headings.proofs.headers.check_letters.Given as goal

abbrev pub invariant-loop-place : goal.invariant-loop-place
invariant-loop-place l = (l.place-iterator.size ≡ 2) × (check_places (check_blank (columns 12 13 l.columns)) l.place-iterator.rest.now ≡ check_letters l.columns)
