-- Longitudes and latitudes in tenths of a second, heights in tenths of a metre.
use Rattle.std.specs.Prelude.{◌≡◌, ℕ, ◌+◌, ◌*◌, ◌/◌, ◌%◌, ◌≤◌, Bool, false, cond, ◌&&◌, List, ◌∷◌, ◌++◌, length, ℤ, pos, negsuc, ◌≤ℤ◌, Some, None, Ok, Err, Option, Result, ◌==◌, nat_le, nat_lt, slice_index, slice_range, unsigned_abs}
use Rattle.decimals.specs.Scan.{unblank, minus, unsigned}
use Rattle.decimals.specs.Number.{signed}
use Rattle.decimals.specs.Numeral.{numeral, tenths}
use Rattle.decimals.specs.Write.{below, fixed}
use Rattle.decimals.specs.Justify.{justified}
use Rattle.refusals.specs.declared.Fault.{Fault}
use Rattle.refusals.specs.declared.Fault.TheVariants.{WrongText, WrongNumber, NumberOutOfRange}

-- the columns from i up to j, counted from 0
abbrev pub columns : ℕ → ℕ → List ℕ → List ℕ
columns i j bs = slice_range bs i j

-- whether a text has eleven bytes, with blanks after the degrees and the minutes
abbrev pub spaced : List ℕ → Bool
spaced bs = length bs == 11 && (slice_index bs 3 == 32 && slice_index bs 6 == 32)

-- degrees, minutes and tenths of a second, of at most `most` tenths in all
abbrev pub angle : ℕ → Bool → ℕ → ℕ → ℕ → Result ℤ Fault
angle most neg d m s = cond (nat_lt m 60 && (nat_lt s 600 && nat_le (d * 36000 + m * 600 + s) most)) (Ok (signed neg (d * 36000 + m * 600 + s))) (Err NumberOutOfRange)

abbrev pub angle_of : ℕ → Bool → Option ℕ → Option ℕ → Option ℕ → Result ℤ Fault
angle_of most neg (Some d) (Some m) (Some s) = angle most neg d m s
angle_of most neg (Some d) (Some m) None = Err WrongNumber
angle_of most neg (Some d) None s = Err WrongNumber
angle_of most neg None m s = Err WrongNumber

-- an angle with its sign and its degrees read
abbrev pub angle_rest : ℕ → Bool → Option ℕ → List ℕ → Result ℤ Fault
angle_rest most neg d bs = angle_of most neg d (numeral (unblank (columns 4 6 bs))) (tenths (unblank (columns 7 11 bs)))

-- below 360 degrees
unfoldable pub read_longitude : List ℕ → Result ℤ Fault
read_longitude bs = cond (spaced bs) (angle_rest 12959999 false (numeral (unblank (columns 0 3 bs))) bs) (Err WrongText)

-- within 90 degrees; the sign is read from the text of the degrees
unfoldable pub read_latitude : List ℕ → Result ℤ Fault
read_latitude bs = cond (spaced bs) (angle_rest 3240000 (minus (unblank (columns 0 3 bs))) (numeral (unsigned (unblank (columns 0 3 bs)))) bs) (Err WrongText)

-- a height of n tenths of a metre, or below zero
abbrev pub height : Bool → ℕ → Result ℤ Fault
height neg n = cond (nat_le n (cond neg 99999 999999)) (Ok (signed neg n)) (Err NumberOutOfRange)

abbrev pub height_of : Bool → Option ℕ → Result ℤ Fault
height_of neg (Some n) = height neg n
height_of neg None = Err WrongNumber

-- from -9999.9 to 99999.9
unfoldable pub read_height : List ℕ → Result ℤ Fault
read_height bs = height_of (minus (unblank bs)) (tenths (unsigned (unblank bs)))

-- degrees in three columns, minutes in two, seconds in four; the sign stands before the degrees
abbrev pub angle_text : ℤ → List ℕ
angle_text z = justified (below z) 3 (unsigned_abs z / 36000) ++ (32 ∷ (justified false 2 (unsigned_abs z / 600 % 60) ++ (32 ∷ (justified false 2 (unsigned_abs z % 600 / 10) ++ (46 ∷ fixed 1 (unsigned_abs z))))))

-- seven columns
abbrev pub height_text : ℤ → List ℕ
height_text z = justified (below z) 5 (unsigned_abs z / 10) ++ (46 ∷ fixed 1 (unsigned_abs z))

-- what reading gives is within its range, and what is written of it is read as it was
abbrev pub LongitudesComeBack : Type 0
LongitudesComeBack = ((bs : List ℕ) (z : ℤ) → read_longitude bs ≡ Ok z → (pos 0 ≤ℤ z) × (z ≤ℤ pos 12959999))
    × ((z : ℤ) → pos 0 ≤ℤ z → z ≤ℤ pos 12959999 → read_longitude (angle_text z) ≡ Ok z)

abbrev pub LatitudesComeBack : Type 0
LatitudesComeBack = ((bs : List ℕ) (z : ℤ) → read_latitude bs ≡ Ok z → unsigned_abs z ≤ 3240000)
    × ((z : ℤ) → unsigned_abs z ≤ 3240000 → read_latitude (angle_text z) ≡ Ok z)

abbrev pub HeightsComeBack : Type 0
HeightsComeBack = ((bs : List ℕ) (z : ℤ) → read_height bs ≡ Ok z → (negsuc 99998 ≤ℤ z) × (z ≤ℤ pos 999999))
    × ((z : ℤ) → negsuc 99998 ≤ℤ z → z ≤ℤ pos 999999 → read_height (height_text z) ≡ Ok z)
