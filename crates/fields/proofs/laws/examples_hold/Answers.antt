use Rattle.std.proofs.Common.{◌^◌, false, pos, negsuc, codes, refl, ap, lit<, lit≤}
use Rattle.decimals.specs.Number.{read_at, scaled, deviation_of}
use Rattle.decimals.proofs.Reading.{read_by}
use Rattle.fields.specs.Angle.{read_latitude}
use Rattle.fields.proofs.laws.examples_hold.Goals as goal

pub returns : goal.returns
unfolding read_at scaled read_latitude
returns c = (
  read_by (10 ^ 15) (codes "0.1E+01") (record { negative = false; value = 1; power = pos 0 }) 0 (lit≤ tt) refl (lit≤ tt) (lit< tt),
  read_by (10 ^ 15) (codes "1") (record { negative = false; value = 1; power = pos 0 }) 0 (lit≤ tt) refl (lit≤ tt) (lit< tt),
  read_by (10 ^ 15) (codes "+10.E-01") (record { negative = false; value = 10; power = negsuc 0 }) 1 (lit≤ tt) refl (lit≤ tt) (lit< tt),
  refl,
  read_by (10 ^ 15) (codes "123456789012345") (record { negative = false; value = 123456789012345; power = pos 0 }) 14 (lit≤ tt) refl (lit≤ tt) (lit< tt),
  read_by (10 ^ 15) (codes "1234567890123450") (record { negative = false; value = 1234567890123450; power = pos 0 }) 15 (lit≤ tt) refl (lit≤ tt) (lit< tt),
  read_by (10 ^ 15) (codes "1234567890123456") (record { negative = false; value = 1234567890123456; power = pos 0 }) 15 (lit≤ tt) refl (lit≤ tt) (lit< tt),
  read_by (10 ^ 15) (codes "9.99E+99") (record { negative = false; value = 999; power = pos 97 }) 2 (lit≤ tt) refl (lit≤ tt) (lit< tt),
  read_by (10 ^ 15) (codes "10E+99") (record { negative = false; value = 10; power = pos 99 }) 1 (lit≤ tt) refl (lit≤ tt) (lit< tt),
  read_by (10 ^ 15) (codes "0.001E-99") (record { negative = false; value = 1; power = negsuc 101 }) 0 (lit≤ tt) refl (lit≤ tt) (lit< tt),
  refl,
  ap deviation_of (read_by (10 ^ 6) (codes "1.234567E+0") (record { negative = false; value = 1234567; power = negsuc 5 }) 6 (lit≤ tt) refl (lit≤ tt) (lit< tt)),
  refl,
  refl,
  refl,
  refl,
  refl,
  refl,
  refl,
  refl,
  refl,
)
