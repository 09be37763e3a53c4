-- Indices, counts, rows and columns.
use Rattle.std.specs.Prelude.{◌≡◌, ℕ, ◌<◌, ◌≤◌, false, List, length, Some, None, Ok, Err, Option, Result}
use Rattle.decimals.specs.Scan.{unblank}
use Rattle.decimals.specs.Numeral.{numeral}
use Rattle.decimals.specs.Write.{fixed}
use Rattle.decimals.specs.Justify.{justified}
use Rattle.refusals.specs.declared.Fault.{Fault}
use Rattle.refusals.specs.declared.Fault.TheVariants.{WrongNumber}

abbrev pub or_wrong_number : Option ℕ → Result ℕ Fault
or_wrong_number (Some n) = Ok n
or_wrong_number None = Err WrongNumber

-- blanks, then one to nine digits up to the end
abbrev pub read_count : List ℕ → Result ℕ Fault
read_count bs = or_wrong_number (numeral (unblank bs))

-- an index, a row or a column: on the right of five columns
abbrev pub index_text : ℕ → List ℕ
index_text n = justified false 5 n

-- the header's count: five digits
abbrev pub count_text : ℕ → List ℕ
count_text n = fixed 5 n

-- what is read of five columns is below 100,000, and what is written of that is read as it was
abbrev pub CountsComeBack : Type 0
CountsComeBack = ((bs : List ℕ) (n : ℕ) → length bs ≤ 5 → read_count bs ≡ Ok n → n < 100000)
    × ((n : ℕ) → n < 100000 → (read_count (index_text n) ≡ Ok n) × (read_count (count_text n) ≡ Ok n))
