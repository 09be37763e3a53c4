-- The decimal value of a text, and when two texts have the same.
use Rattle.std.specs.Prelude.{◌≡◌, ℕ, ◌*◌, ◌^◌, true, ◌⊎◌, List, ℤ, pos, negsuc, ◌+ℤ◌, ◌-ℤ◌, ◌≤ℤ◌, Some, Ok, Err, ◌≢◌, unsigned_abs}
use Rattle.decimals.specs.Number.{Said, said, read_number, read_deviation}
use Rattle.decimals.specs.Write.{Canonical, CanonicalDeviation}
use Rattle.decimals.specs.declared.number.Number.{Number}
use Rattle.decimals.specs.declared.number.Deviation.{Deviation}
use Rattle.refusals.specs.declared.Fault.TheVariants.{NumberOutOfRange}

-- the size of a value in units of 10 ^ -200, a whole number for every text of at most 21 bytes
abbrev pub units : ℕ → ℤ → ℕ
units v e = v * 10 ^ unsigned_abs (e +ℤ pos 200)

-- the value that a number with k digits after the first stands for
abbrev pub worth : ℕ → Number → ℕ
worth k n = units n.mantissa (n.exponent -ℤ pos k)

abbrev pub SameValue : Said → Said → Type 0
SameValue s t = (units s.value s.power ≡ units t.value t.power) × ((s.negative ≡ t.negative) ⊎ (s.value ≡ 0))

-- the number read has the value that the text says, in whole units, and its sign where it is not zero
abbrev pub ValueIsKept : Type 0
ValueIsKept = (bs : List ℕ) (s : Said) (n : Number) → said bs ≡ Some s → read_number bs ≡ Ok n
    → (negsuc 199 ≤ℤ s.power) × (units s.value s.power ≡ worth 14 n) × ((n.negative ≡ s.negative) ⊎ (s.value ≡ 0))

-- two texts are read as the same number exactly where they say the same value
abbrev pub SameExactly : Type 0
SameExactly = (bs cs : List ℕ) (s t : Said) (m n : Number) → said bs ≡ Some s → said cs ≡ Some t → read_number bs ≡ Ok m → read_number cs ≡ Ok n
    → (m ≡ n → SameValue s t) × (SameValue s t → m ≡ n)

-- a value has one mantissa and one exponent
abbrev pub OneForm : Type 0
OneForm = (m n : Number) → Canonical 14 m → Canonical 14 n → worth 14 m ≡ worth 14 n → (m.mantissa ≡ n.mantissa) × (m.exponent ≡ n.exponent)

-- a text in due form is refused only where no number that can be kept has its value
abbrev pub RefusedRightly : Type 0
RefusedRightly = (bs : List ℕ) (s : Said) → said bs ≡ Some s → read_number bs ≡ Err NumberOutOfRange → (n : Number) → Canonical 14 n → units s.value s.power ≢ worth 14 n

-- the same of deviations: those of two texts are one exactly where the texts say one value
abbrev pub SameDeviations : Type 0
SameDeviations = (bs cs : List ℕ) (s t : Said) (d e : Deviation) → said bs ≡ Some s → said cs ≡ Some t → read_deviation bs ≡ Ok d → read_deviation cs ≡ Ok e
    → (d ≡ e → SameValue s t) × (SameValue s t → d ≡ e)

-- a deviation in due form is refused only where it is below zero, or no deviation that can be kept has its value
abbrev pub DeviationsRefusedRightly : Type 0
DeviationsRefusedRightly = (bs : List ℕ) (s : Said) → said bs ≡ Some s → read_deviation bs ≡ Err NumberOutOfRange
    → (d : Deviation) → CanonicalDeviation d → units s.value s.power ≡ units d.mantissa (d.exponent -ℤ pos 5) → s.negative ≡ true
