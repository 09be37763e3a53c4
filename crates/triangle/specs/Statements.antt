-- The working row, and what the elements of a matrix block do to a matrix. A file's indices count from 1, ranks from 0.
use Rattle.std.specs.Prelude.{ℕ, suc, ◌-◌, min, Bool, true, cond, ◌&&◌, ◌||◌, List, [], ◌∷◌, ◌++◌, map, length, drop, replicate, Ok, Err, Result, nat_le, slice_index}
use Rattle.std.specs.declared.cmp.Ordering.{Ordering}
use Rattle.refusals.specs.declared.Fault.{Fault}
use Rattle.refusals.specs.declared.Fault.TheVariants.{TableLengths, OutOfStep, RecordAbsent}
use Rattle.std.specs.Result.{result_unwrap_or}
use Rattle.tables.specs.Rows.{sought, known, used_rows}
use Rattle.triangle.specs.declared.row.Element.{Element}
use Rattle.triangle.specs.declared.row.Side.{Side}
use Rattle.triangle.specs.declared.row.Side.TheVariants.{Lower, Upper}
use Rattle.triangle.specs.Triangle.{same, seen}

-- ---- the working row: at the place of a file's index the rank of its record

-- the rank of r's key in the table, 0 where it is absent
abbrev pub rank_in : {R : Type 0} → (R → R → Ordering) → ℕ → List R → R → ℕ
rank_in cmp used rows r = result_unwrap_or (sought cmp r (used_rows used rows)) 0

-- whether the table has each of the records
abbrev pub all_known : {R : Type 0} → (R → R → Ordering) → ℕ → List R → List R → Bool
all_known cmp used rows [] = true
all_known cmp used rows (r ∷ rs) = known cmp r used rows && all_known cmp used rows rs

-- an index from 1 to n
abbrev pub counted : ℕ → ℕ → Bool
counted n i = nat_le 1 i && nat_le i n

-- what is answered to the record of an index, with n places in the row
abbrev pub rank_answer : {R : Type 0} → (R → R → Ordering) → ℕ → List R → ℕ → ℕ → R → Result (Unit {0}) Fault
rank_answer cmp used rows n index r = cond (nat_le used 2000) (cond (counted n index) (cond (known cmp r used rows) (Ok tt) (Err RecordAbsent)) (Err OutOfStep)) (Err TableLengths)

abbrev pub rank_granted : {R : Type 0} → (R → R → Ordering) → ℕ → List R → ℕ → ℕ → R → Bool
rank_granted cmp used rows n index r = nat_le used 2000 && (counted n index && known cmp r used rows)

-- what is answered to all the records in a file's order
abbrev pub fill_answer : {R : Type 0} → (R → R → Ordering) → ℕ → List R → ℕ → List R → Result (Unit {0}) Fault
fill_answer cmp used rows n rs = cond (nat_le used 2000) (cond (nat_le (length rs) n) (cond (all_known cmp used rows rs) (Ok tt) (Err RecordAbsent)) (Err OutOfStep)) (Err TableLengths)

-- the row afterwards: the ranks of the records, and zeros where one of them is absent
abbrev pub fill_row : {R : Type 0} → (R → R → Ordering) → ℕ → List R → List ℕ → List R → List ℕ
fill_row cmp used rows row rs =
    cond (nat_le used 2000 && nat_le (length rs) (length row))
    (cond (all_known cmp used rows rs) (map (rank_in cmp used rows) rs ++ drop (length rs) row) (replicate (length row) 0))
    row

-- ---- elements

-- row and column within 1 to n
abbrev pub inside : ℕ → ℕ → ℕ → Bool
inside n i j = counted n i && counted n j

-- L holds cells with column up to row, U with row up to column
abbrev pub on_side : Side → ℕ → ℕ → Bool
on_side Lower i j = nat_le j i
on_side Upper i j = nat_le i j

-- the rank that the working row has for an index
abbrev pub rank_of : List ℕ → ℕ → ℕ
rank_of ρ i = slice_index ρ (i - 1)

-- the matrix f with v in the cell of i and j
abbrev pub with_cell : {X : Type 0} → (ℕ → ℕ → X) → ℕ → ℕ → X → ℕ → ℕ → X
with_cell f i j v a b = cond (same i j a b) v (f a b)

-- the cell of a nonzero element is free: in the file's triangle, and zero
abbrev pub free : {X : Type 0} → (X → Bool) → List ℕ → ℕ → Side → ℕ → (ℕ → ℕ → X) → Element X → Bool
free void ρ count side len f e =
    (inside (min count (length ρ)) e.row e.column && on_side side e.row e.column)
    && (seen len (rank_of ρ e.row) (rank_of ρ e.column) && void (f (rank_of ρ e.row) (rank_of ρ e.column)))

-- by the ranks ρ the element may be stated over the matrix f, which a list of that length has: zero states nothing
abbrev pub sound : {X : Type 0} → (X → Bool) → List ℕ → ℕ → Side → ℕ → (ℕ → ℕ → X) → Element X → Bool
sound void ρ count side len f e = void e.value || free void ρ count side len f e

-- the matrix f once the element is stated
abbrev pub stated : {X : Type 0} → (X → Bool) → List ℕ → (ℕ → ℕ → X) → Element X → ℕ → ℕ → X
stated void ρ f e = cond (void e.value) f (with_cell f (rank_of ρ e.row) (rank_of ρ e.column) e.value)

-- the matrix f after the elements up to the first that may not be stated
abbrev pub run : {X : Type 0} → (X → Bool) → List ℕ → ℕ → Side → ℕ → (ℕ → ℕ → X) → List (Element X) → ℕ → ℕ → X
run void ρ count side len f [] = f
run void ρ count side len f (e ∷ es) = cond (sound void ρ count side len f e) (run void ρ count side len (stated void ρ f e) es) f

-- how many elements stand before the first that may not be stated
abbrev pub taken : {X : Type 0} → (X → Bool) → List ℕ → ℕ → Side → ℕ → (ℕ → ℕ → X) → List (Element X) → ℕ
taken void ρ count side len f [] = 0
taken void ρ count side len f (e ∷ es) = cond (sound void ρ count side len f e) (suc (taken void ρ count side len (stated void ρ f e) es)) 0
