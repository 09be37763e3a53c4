-- A symmetric matrix kept as its lower triangle, row after row, in one list.
use Rattle.std.specs.Prelude.{ℕ, zero, suc, ◌+◌, ◌-◌, ◌≤◌, min, max, Bool, cond, not, ◌&&◌, ◌||◌, List, [], ◌++◌, map, ◌==◌, nat_le, nat_lt, slice_index_or}
use Rattle.std.specs.List.{range_with_len}
use Rattle.decimals.specs.declared.number.Number.{Number}

-- a number is zero where its mantissa is
abbrev pub is_zero_number : Number → Bool
is_zero_number n = n.mantissa == 0

-- how many places n rows take
abbrev pub tri : ℕ → ℕ
tri zero = 0
tri (suc n) = tri n + suc n

-- the place of the cell of i and j, in either order
abbrev pub spot : ℕ → ℕ → ℕ
spot i j = tri (max i j) + min i j

-- the cell of i and j; z where the list is too short
abbrev pub cell : {X : Type 0} → X → List X → ℕ → ℕ → X
cell z xs i j = slice_index_or xs (spot i j) z

-- the same where j is at most i
abbrev pub low : {X : Type 0} → X → List X → ℕ → ℕ → X
low z xs i j = slice_index_or xs (tri i + j) z

-- a and b are i and j, in either order
abbrev pub same : ℕ → ℕ → ℕ → ℕ → Bool
same i j a b = max a b == max i j && min a b == min i j

-- there are at most 2000 rows, and a list of that length has them
abbrev pub HasRows : ℕ → ℕ → Type 0
HasRows len n = (n ≤ 2000) × (tri n ≤ len)

-- the same, as a test
abbrev pub holds : ℕ → ℕ → Bool
holds len n = nat_le n 2000 && nat_le (tri n) len

-- the rank before, of what has rank i after a rank r was opened
abbrev pub skip : ℕ → ℕ → ℕ
skip r i = cond (nat_lt i r) i (i - 1)

-- the rank after, of what had rank i before a rank r was opened
abbrev pub jump : ℕ → ℕ → ℕ
jump r i = cond (nat_lt i r) i (i + 1)

-- i and j are among the ranks up to n, and neither is r
abbrev pub old : ℕ → ℕ → ℕ → ℕ → Bool
old n r i j = nat_le (max i j) n && (not (i == r) && not (j == r))

-- i and j are among the ranks up to n, and one of them is r
abbrev pub fresh : ℕ → ℕ → ℕ → ℕ → Bool
fresh n r i j = nat_le (max i j) n && (i == r || j == r)

-- the matrix f of n ranks, each cell between two old ranks at its new place
abbrev pub spread : {X : Type 0} → ℕ → ℕ → (ℕ → ℕ → X) → ℕ → ℕ → X
spread n r f i j = cond (old n r i j) (f (skip r i) (skip r j)) (f i j)

-- the matrix f with z in the cells of rank r, up to rank n
abbrev pub wiped : {X : Type 0} → X → ℕ → ℕ → (ℕ → ℕ → X) → ℕ → ℕ → X
wiped z n r f i j = cond (fresh n r i j) z (f i j)

-- the matrix f of n ranks with rank r opened, its cells z
abbrev pub opened : {X : Type 0} → X → ℕ → ℕ → (ℕ → ℕ → X) → ℕ → ℕ → X
opened z n r f = wiped z n r (spread n r f)

-- the matrix f of n ranks without rank r, z in the row that it frees
abbrev pub closed : {X : Type 0} → X → ℕ → ℕ → (ℕ → ℕ → X) → ℕ → ℕ → X
closed z n r f i j = cond (nat_lt (max i j + 1) n) (f (jump r i) (jump r j)) (cond (max i j + 1 == n) z (f i j))

-- a list of that length has a row for one more than n ranks, and r is among the ranks then
abbrev pub openable : ℕ → ℕ → ℕ → Bool
openable len n r = holds len (n + 1) && nat_le r n

-- a list of that length has n rows, and r is among the ranks
abbrev pub closable : ℕ → ℕ → ℕ → Bool
closable len n r = holds len n && nat_lt r n

-- i and j are among 2000 ranks, and a list of that length has their cell
abbrev pub seen : ℕ → ℕ → ℕ → Bool
seen len i j = nat_lt (max i j) 2000 && nat_lt (spot i j) len

-- the rows of the matrix f, one after another: row i has the columns 0 to i
abbrev pub rows_of : {X : Type 0} → ℕ → (ℕ → ℕ → X) → List X
rows_of zero f = []
rows_of (suc n) f = rows_of n f ++ map (λ j. f n j) (range_with_len 0 (suc n))

-- the matrix after a call that opens rank r among n ranks, where a list of that length has room, and after one that closes it
abbrev pub opened_in : {X : Type 0} → X → ℕ → ℕ → ℕ → (ℕ → ℕ → X) → ℕ → ℕ → X
opened_in z len n r f i j = cond (openable len n r) (opened z n r f i j) (f i j)

abbrev pub closed_in : {X : Type 0} → X → ℕ → ℕ → ℕ → (ℕ → ℕ → X) → ℕ → ℕ → X
closed_in z len n r f i j = cond (closable len n r) (closed z n r f i j) (f i j)
