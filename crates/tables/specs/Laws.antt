-- What the ordered table comes to, in words of records and keys.
use Rattle.std.specs.Prelude.{◌≡◌, ℕ, ◌+◌, ◌-◌, ◌<◌, ◌≤◌, false, cond, ◌⊎◌, List, [], ◌∷◌, length, take, is_ok, Ok, Err, Result, ◌≢◌, nat_lt, slice_index_or}
use Rattle.std.specs.declared.cmp.Ordering.TheVariants.{Less, Equal, Greater}
use Rattle.std.specs.declared.cmp.Ordering.{Ordering}
use Rattle.refusals.specs.declared.Fault.{Fault}
use Rattle.refusals.specs.declared.Fault.TheVariants.{TableFull, RecordAbsent}
use Rattle.tables.specs.Keys.{Rising}
use Rattle.tables.specs.Lists.{place, holds, put, without, over, laid}
use Rattle.tables.specs.Rows.{sought, put_answer, put_rows, drop_answer, drop_rows}

-- x is a record of the list
abbrev pub Among : {R : Type 0} → R → List R → Type 0
Among x [] = ⊥
Among x (y ∷ ys) = (x ≡ y) ⊎ Among x ys

-- ---- places

-- a place tells where r's key stands: at Ok the record has r's key; at Err those before have smaller keys, those from there on greater ones
abbrev pub Tells : {R : Type 0} → (R → R → Ordering) → R → List R → Result ℕ ℕ → Type 0
Tells cmp r xs (Ok k) = (k < length xs) × (cmp (slice_index_or xs k r) r ≡ Equal)
Tells cmp r xs (Err k) =
    (k ≤ length xs)
    × ((i : ℕ) → i < k → cmp (slice_index_or xs i r) r ≡ Less)
    × ((i : ℕ) → k ≤ i → i < length xs → cmp (slice_index_or xs i r) r ≡ Greater)

-- in a list whose keys rise, halving finds the place of the ordered list, and that tells where the key stands
abbrev pub SearchLaw : (R : Type 0) → (R → R → Ordering) → Type 0
SearchLaw R cmp = (r : R) (xs : List R) → Rising cmp xs → (sought cmp r xs ≡ place cmp r xs) × Tells cmp r xs (place cmp r xs)

-- ---- lists

-- after a put: the new record, and the old ones of other keys, in order
pub record PutGives {R : Type 0} (cmp : R → R → Ordering) (r : R) (xs : List R) : Type 0 where
  pub rises : Rising cmp (put cmp r xs)
  pub new : Among r (put cmp r xs)
  pub kept : (x : R) → Among x xs → (cmp x r ≢ Equal) → Among x (put cmp r xs)
  pub only : (x : R) → Among x (put cmp r xs) → (x ≡ r) ⊎ (Among x xs × (cmp x r ≢ Equal))

-- after a drop: the others, in order
pub record DropGives {R : Type 0} (cmp : R → R → Ordering) (r : R) (xs : List R) : Type 0 where
  pub rises : Rising cmp (without cmp r xs)
  pub kept : (x : R) → Among x xs → (cmp x r ≢ Equal) → Among x (without cmp r xs)
  pub only : (x : R) → Among x (without cmp r xs) → Among x xs × (cmp x r ≢ Equal)

abbrev pub PutLaw : (R : Type 0) → (R → R → Ordering) → Type 0
PutLaw R cmp = (r : R) (xs : List R) → Rising cmp xs → PutGives cmp r xs

abbrev pub DropLaw : (R : Type 0) → (R → R → Ordering) → Type 0
DropLaw R cmp = (r : R) (xs : List R) → Rising cmp xs → DropGives cmp r xs

-- a record of a new key put and dropped again
abbrev pub BackLaw : (R : Type 0) → (R → R → Ordering) → Type 0
BackLaw R cmp = (r : R) (xs : List R) → Rising cmp xs → holds cmp r xs ≡ false → without cmp r (put cmp r xs) ≡ xs

-- ---- rows

-- a put on rows of which the first `used` rise, by the ordered list: what is answered, and the rows then
pub record PutSorted {R : Type 0} (cmp : R → R → Ordering) (r : R) (used : ℕ) (rows after : List R) (answer : Result ℕ Fault) : Type 0 where
  pub replies : answer ≡ cond (holds cmp r (take used rows)) (Ok used) (cond (nat_lt used (length rows)) (Ok (used + 1)) (Err TableFull))
  pub leaves : after ≡ cond (is_ok answer) (over (put cmp r (take used rows)) rows) rows

-- the same of a drop: the freed place becomes blank
pub record DropSorted {R : Type 0} (cmp : R → R → Ordering) (blank r : R) (used : ℕ) (rows after : List R) (answer : Result ℕ Fault) : Type 0 where
  pub replies : answer ≡ cond (holds cmp r (take used rows)) (Ok (used - 1)) (Err RecordAbsent)
  pub leaves : after ≡ cond (is_ok answer) (over (laid blank used (without cmp r (take used rows))) rows) rows

-- what a put on n places with the records xs is answered
abbrev pub put_rule : {R : Type 0} → (R → R → Ordering) → R → ℕ → List R → Result ℕ Fault
put_rule cmp r n xs = cond (holds cmp r xs) (Ok (length xs)) (cond (nat_lt (length xs) n) (Ok (length xs + 1)) (Err TableFull))

abbrev pub drop_rule : {R : Type 0} → (R → R → Ordering) → R → List R → Result ℕ Fault
drop_rule cmp r xs = cond (holds cmp r xs) (Ok (length xs - 1)) (Err RecordAbsent)

-- rows that are records in order and then blanks stay so: the calls on the rows are the edits of the list
pub record StaysLaid {R : Type 0} (cmp : R → R → Ordering) (blank r : R) (n : ℕ) (xs : List R) : Type 0 where
  pub put-answer : put_answer cmp r (length xs) (laid blank n xs) ≡ put_rule cmp r n xs
  pub put-rows : put_rows cmp r (length xs) (laid blank n xs) ≡ laid blank n (cond (is_ok (put_rule cmp r n xs)) (put cmp r xs) xs)
  pub drop-answer : drop_answer cmp r (length xs) (laid blank n xs) ≡ drop_rule cmp r xs
  pub drop-rows : drop_rows cmp blank r (length xs) (laid blank n xs) ≡ laid blank n (without cmp r xs)

abbrev pub LaidLaw : (R : Type 0) → (R → R → Ordering) → R → Type 0
LaidLaw R cmp blank = (n : ℕ) (r : R) (xs : List R) → length xs ≤ n → Rising cmp xs → StaysLaid cmp blank r n xs
