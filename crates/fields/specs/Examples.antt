-- The worked examples of the rules, as one list.
use Rattle.std.specs.Prelude.{◌≡◌, ℕ, false, pos, negsuc, Ok, Err, codes}
use Rattle.std.specs.declared.cmp.Ordering.TheVariants.{Greater}
use Rattle.decimals.specs.Number.{read_number, read_deviation, zero_number}
use Rattle.decimals.specs.declared.number.Number.{Number}
use Rattle.refusals.specs.declared.Fault.TheVariants.{WrongNumber, NumberOutOfRange, WrongEpoch}
use Rattle.fields.specs.Angle.{read_latitude}
use Rattle.fields.specs.Epoch.{read_epoch, epoch_order}
use Rattle.fields.specs.declared.epochs.Epoch.TheVariants.{At}
use Rattle.fields.specs.declared.epochs.Epoch.{Epoch}

abbrev pub one : Number
one = record { negative = false; mantissa = 100000000000000; exponent = pos 0 }

abbrev pub day : ℕ → ℕ → ℕ → Epoch
day y d s = At (record { year = y; day = d; second = s })

abbrev pub WorkedExamples : Type 0
WorkedExamples = (read_number (codes "0.1E+01") ≡ Ok one) × (read_number (codes "1") ≡ Ok one) × (read_number (codes "+10.E-01") ≡ Ok one)
    × (read_number (codes "-0.000") ≡ Ok zero_number)
    × (read_number (codes "123456789012345") ≡ Ok (record { negative = false; mantissa = 123456789012345; exponent = pos 14 }))
    × (read_number (codes "1234567890123450") ≡ Ok (record { negative = false; mantissa = 123456789012345; exponent = pos 15 }))
    × (read_number (codes "1234567890123456") ≡ Err NumberOutOfRange)
    × (read_number (codes "9.99E+99") ≡ Ok (record { negative = false; mantissa = 999000000000000; exponent = pos 99 }))
    × (read_number (codes "10E+99") ≡ Err NumberOutOfRange) × (read_number (codes "0.001E-99") ≡ Err NumberOutOfRange)
    × (read_number (codes "1.0D+00") ≡ Err WrongNumber)
    × (read_deviation (codes "1.234567E+0") ≡ Err NumberOutOfRange)
    × (read_epoch (codes "00:366:86399") ≡ Ok (day 2000 366 86399))
    × (read_epoch (codes "01:366:00000") ≡ Err WrongEpoch) × (read_epoch (codes "10:001:86400") ≡ Err WrongEpoch) × (read_epoch (codes "00:000:00001") ≡ Err WrongEpoch)
    × (read_epoch (codes "50:001:00000") ≡ Ok (day 2050 1 0)) × (read_epoch (codes "51:001:00000") ≡ Ok (day 1951 1 0)) × (epoch_order (day 2050 1 0) (day 1951 1 0) ≡ Greater)
    × (read_latitude (codes " -0 15  0.5") ≡ Ok (negsuc 9004)) × (read_latitude (codes "-90  0  0.1") ≡ Err NumberOutOfRange)
