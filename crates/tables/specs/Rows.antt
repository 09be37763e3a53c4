-- What the calls of a table answer and leave, of any rows, sorted or not: a search by halving, and what follows from the place that it gives.
-- Of rows whose keys rise the place is that of the ordered list (the search law).
use Rattle.std.specs.Prelude.{ℕ, zero, suc, ◌+◌, ◌-◌, ◌/◌, min, Bool, cond, List, ◌∷◌, ◌++◌, length, take, drop, is_ok, Ok, Err, Result, nat_lt, slice_index_or, slice_set}
use Rattle.std.specs.declared.cmp.Ordering.{Ordering}
use Rattle.refusals.specs.declared.Fault.{Fault}
use Rattle.refusals.specs.declared.Fault.TheVariants.{TableFull, RecordAbsent}
use Rattle.std.specs.List.{insert, remove}
use Rattle.tables.specs.Keys.{by3}

abbrev pub middle : ℕ → ℕ → ℕ
middle low high = low + (high - low) / 2

-- the place that a search by halving from low to high gives, within n steps
abbrev pub halving : {R : Type 0} → (R → R → Ordering) → R → List R → ℕ → ℕ → ℕ → Result ℕ ℕ
halving cmp r xs zero low high = Err low
halving cmp r xs (suc n) low high =
    cond (nat_lt low high)
    (by3 (cmp (slice_index_or xs (middle low high) r) r)
    (halving cmp r xs n (middle low high + 1) high)
    (Ok (middle low high))
    (halving cmp r xs n low (middle low high)))
    (Err low)

abbrev pub sought : {R : Type 0} → (R → R → Ordering) → R → List R → Result ℕ ℕ
sought cmp r xs = halving cmp r xs (length xs) 0 (length xs)

-- how many of the rows are used; never more than there are
abbrev pub filled : {R : Type 0} → ℕ → List R → ℕ
filled used rows = min used (length rows)

-- a put by the place of the record, of n places of which u are used: how many are used then
abbrev pub put_answer_at : Result ℕ ℕ → ℕ → ℕ → Result ℕ Fault
put_answer_at (Ok k) u n = Ok u
put_answer_at (Err k) u n = cond (nat_lt u n) (Ok (u + 1)) (Err TableFull)

abbrev pub put_rows_at : {R : Type 0} → Result ℕ ℕ → R → ℕ → List R → List R
put_rows_at (Ok k) r u rows = slice_set rows k r
put_rows_at (Err k) r u rows = cond (nat_lt u (length rows)) (insert (take u rows) k r ++ drop (u + 1) rows) rows

abbrev pub drop_answer_at : Result ℕ ℕ → ℕ → Result ℕ Fault
drop_answer_at (Ok k) u = Ok (u - 1)
drop_answer_at (Err k) u = Err RecordAbsent

abbrev pub drop_rows_at : {R : Type 0} → Result ℕ ℕ → R → ℕ → List R → List R
drop_rows_at (Ok k) blank u rows = remove (take u rows) k ++ (blank ∷ drop u rows)
drop_rows_at (Err k) blank u rows = rows

-- the rows that are used
abbrev pub used_rows : {R : Type 0} → ℕ → List R → List R
used_rows used rows = take (filled used rows) rows

-- whether a table whose first `used` rows are used has a record of r's key
abbrev pub known : {R : Type 0} → (R → R → Ordering) → R → ℕ → List R → Bool
known cmp r used rows = is_ok (sought cmp r (used_rows used rows))

abbrev pub put_answer : {R : Type 0} → (R → R → Ordering) → R → ℕ → List R → Result ℕ Fault
put_answer cmp r used rows = put_answer_at (sought cmp r (used_rows used rows)) (filled used rows) (length rows)

abbrev pub put_rows : {R : Type 0} → (R → R → Ordering) → R → ℕ → List R → List R
put_rows cmp r used rows = put_rows_at (sought cmp r (used_rows used rows)) r (filled used rows) rows

abbrev pub drop_answer : {R : Type 0} → (R → R → Ordering) → R → ℕ → List R → Result ℕ Fault
drop_answer cmp r used rows = drop_answer_at (sought cmp r (used_rows used rows)) (filled used rows)

abbrev pub drop_rows : {R : Type 0} → (R → R → Ordering) → R → R → ℕ → List R → List R
drop_rows cmp blank r used rows = drop_rows_at (sought cmp r (used_rows used rows)) blank (filled used rows) rows

-- the answer without its number
abbrev pub plain : {A E : Type 0} → Result A E → Result (Unit {0}) E
plain (Ok x) = Ok tt
plain (Err e) = Err e
