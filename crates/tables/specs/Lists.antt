-- Ordered lists of records: sorted insertion and removal.
use Rattle.std.specs.Prelude.{ℕ, ◌+◌, ◌-◌, Bool, true, false, List, [], ◌∷◌, ◌++◌, length, drop, replicate, Ok, Err, Result}
use Rattle.std.specs.declared.cmp.Ordering.{Ordering}
use Rattle.tables.specs.Keys.{by3}

-- where the record of r's key stands in xs, counted from i (Ok), or the place before which it would go (Err)
abbrev pub place_from : {R : Type 0} → (R → R → Ordering) → R → ℕ → List R → Result ℕ ℕ
place_from cmp r i [] = Err i
place_from cmp r i (x ∷ xs) = by3 (cmp x r) (place_from cmp r (i + 1) xs) (Ok i) (Err i)

abbrev pub place : {R : Type 0} → (R → R → Ordering) → R → List R → Result ℕ ℕ
place cmp r xs = place_from cmp r 0 xs

-- whether xs has a record of r's key
abbrev pub holds : {R : Type 0} → (R → R → Ordering) → R → List R → Bool
holds cmp r [] = false
holds cmp r (x ∷ xs) = by3 (cmp x r) (holds cmp r xs) true false

-- xs with r in the place of the record of its key, or added in order
abbrev pub put : {R : Type 0} → (R → R → Ordering) → R → List R → List R
put cmp r [] = r ∷ []
put cmp r (x ∷ xs) = by3 (cmp x r) (x ∷ put cmp r xs) (r ∷ xs) (r ∷ x ∷ xs)

-- xs without the record of r's key
abbrev pub without : {R : Type 0} → (R → R → Ordering) → R → List R → List R
without cmp r [] = []
without cmp r (x ∷ xs) = by3 (cmp x r) (x ∷ without cmp r xs) xs (x ∷ xs)

-- ys written over the first places of xs
abbrev pub over : {R : Type 0} → List R → List R → List R
over ys xs = ys ++ drop (length ys) xs

-- the records of the list, then blanks, n places in all
abbrev pub laid : {R : Type 0} → R → ℕ → List R → List R
laid blank n xs = xs ++ replicate (n - length xs) blank
