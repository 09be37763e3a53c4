-- Numbers as they are written.
use Rattle.std.specs.Prelude.{◌≡◌, ℕ, zero, suc, ◌+◌, ◌/◌, ◌%◌, ◌^◌, ◌<◌, ◌≤◌, Bool, true, false, cond, ◌⊎◌, List, [], ◌∷◌, ◌++◌, length, ℤ, pos, negsuc, ◌≤ℤ◌, Ok, unsigned_abs}
use Rattle.decimals.specs.Number.{zero_number, read_number, read_deviation}
use Rattle.decimals.specs.declared.number.Number.{Number}
use Rattle.decimals.specs.declared.number.Deviation.{Deviation}

-- the last k digits of m
abbrev pub fixed : ℕ → ℕ → List ℕ
fixed zero m = []
fixed (suc k) m = (48 + m / 10 ^ k % 10) ∷ fixed k m

abbrev pub below : ℤ → Bool
below (pos n) = false
below (negsuc n) = true

-- one digit, a point, k digits, E, a sign, two digits
abbrev pub digits_text : ℕ → ℕ → ℤ → List ℕ
digits_text k m q = (48 + m / 10 ^ k % 10) ∷ (46 ∷ (fixed k m ++ (69 ∷ (cond (below q) 45 43 ∷ fixed 2 (unsigned_abs q)))))

-- a number: a sign column, and the digits with 14 after the point
abbrev pub number_text : Number → List ℕ
number_text n = cond n.negative 45 32 ∷ digits_text 14 n.mantissa n.exponent

-- a deviation has five after the point, and no sign column
abbrev pub deviation_text : Deviation → List ℕ
deviation_text d = digits_text 5 d.mantissa d.exponent

-- mantissa and exponent of a number as it is kept, with k digits after the first
abbrev pub Kept : ℕ → ℕ → ℤ → Type 0
Kept k m q = (10 ^ k ≤ m) × (m < 10 ^ (k + 1)) × (negsuc 98 ≤ℤ q) × (q ≤ℤ pos 99)

-- a number as it is kept, with k digits after the first: zero has one form
abbrev pub Canonical : ℕ → Number → Type 0
Canonical k n = (n ≡ zero_number) ⊎ Kept k n.mantissa n.exponent

abbrev pub zero_deviation : Deviation
zero_deviation = record { mantissa = 0; exponent = pos 0 }

abbrev pub CanonicalDeviation : Deviation → Type 0
CanonicalDeviation d = (d ≡ zero_deviation) ⊎ Kept 5 d.mantissa d.exponent

-- what reading gives is kept so, what is written of such a number is read as that number, and it fills its columns
abbrev pub NumbersComeBack : Type 0
NumbersComeBack = ((bs : List ℕ) (n : Number) → read_number bs ≡ Ok n → Canonical 14 n)
    × ((n : Number) → Canonical 14 n → read_number (number_text n) ≡ Ok n)
    × ((n : Number) → length (number_text n) ≡ 21)

abbrev pub DeviationsComeBack : Type 0
DeviationsComeBack = ((bs : List ℕ) (d : Deviation) → read_deviation bs ≡ Ok d → CanonicalDeviation d)
    × ((d : Deviation) → CanonicalDeviation d → read_deviation (deviation_text d) ≡ Ok d)
    × ((d : Deviation) → length (deviation_text d) ≡ 11)
