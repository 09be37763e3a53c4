-- What the elements of a block state, in whatever order they stand.
use Rattle.std.specs.Prelude.{◌≡◌, ℕ, ◌<◌, min, Bool, true, false, List, ◌++◌, map, length, drop, slice_index_or}
use Rattle.std.specs.declared.cmp.Ordering.TheVariants.{Equal}
use Rattle.std.specs.declared.cmp.Ordering.{Ordering}
use Rattle.tables.specs.Keys.{Rising}
use Rattle.tables.specs.Rows.{known, used_rows}
use Rattle.triangle.specs.declared.row.Element.{Element}
use Rattle.triangle.specs.declared.row.Side.{Side}
use Rattle.triangle.specs.Triangle.{same}
use Rattle.triangle.specs.Statements.{rank_in, all_known, counted, rank_of, run, taken}

abbrev pub Symmetric : {X : Type 0} → (ℕ → ℕ → X) → Type 0
Symmetric f = (i j : ℕ) → f i j ≡ f j i

-- an element that states the cell of i and j: not zero, and at this row and column, in either order
abbrev pub States : {X : Type 0} → (X → Bool) → ℕ → ℕ → Element X → Type 0
States void i j e = (void e.value ≡ false) × (same e.row e.column i j ≡ true)

-- where all elements may be stated, each that is not zero is found at the ranks of its row and column
abbrev pub EachStands : (X : Type 0) → (X → Bool) → Type 0
EachStands X void = (ρ : List ℕ) (count : ℕ) (side : Side) (len : ℕ) (f : ℕ → ℕ → X) (es : List (Element X)) → Symmetric f → taken void ρ count side len f es ≡ length es
    → (k : ℕ) (d : Element X) → k < length es → void (slice_index_or es k d).value ≡ false
    → run void ρ count side len f es (rank_of ρ (slice_index_or es k d).row) (rank_of ρ (slice_index_or es k d).column) ≡ (slice_index_or es k d).value

-- a cell of two ranks that no element states is as it was
abbrev pub OthersStay : (X : Type 0) → (X → Bool) → Type 0
OthersStay X void = (ρ : List ℕ) (count : ℕ) (side : Side) (len : ℕ) (f : ℕ → ℕ → X) (es : List (Element X)) (a b : ℕ)
    → ((k : ℕ) (d : Element X) → k < length es → void (slice_index_or es k d).value ≡ false
    → same (rank_of ρ (slice_index_or es k d).row) (rank_of ρ (slice_index_or es k d).column) a b ≡ false)
    → run void ρ count side len f es a b ≡ f a b

-- distinct indices from 1 to n have distinct ranks
abbrev pub Apart : ℕ → List ℕ → Type 0
Apart n ρ = (p q : ℕ) → counted n p ≡ true → counted n q ≡ true → rank_of ρ p ≡ rank_of ρ q → p ≡ q

-- two cells by indices are one cell exactly if they are so by ranks
abbrev pub Renumbered : Type 0
Renumbered = (n : ℕ) (ρ : List ℕ) → Apart n ρ → (i j p q : ℕ) → counted n i ≡ true → counted n j ≡ true → counted n p ≡ true → counted n q ≡ true
    → same (rank_of ρ i) (rank_of ρ j) (rank_of ρ p) (rank_of ρ q) ≡ same i j p q

-- of a file whose elements may all be stated: the cell of two indices has the value that an element states for them, in either order, and else what it had
pub record CellByIndex {X : Type 0} (void : X → Bool) (es : List (Element X)) (before after : X) (i j : ℕ) : Type 0 where
  pub found : (k : ℕ) (d : Element X) → k < length es → States void i j (slice_index_or es k d) → after ≡ (slice_index_or es k d).value
  pub none : ((k : ℕ) (d : Element X) → k < length es → States void i j (slice_index_or es k d) → ⊥) → after ≡ before

abbrev pub ByIndex : (X : Type 0) → (X → Bool) → Type 0
ByIndex X void = (ρ : List ℕ) (count : ℕ) (side : Side) (len : ℕ) (f : ℕ → ℕ → X) (es : List (Element X)) → Symmetric f → Apart (min count (length ρ)) ρ
    → taken void ρ count side len f es ≡ length es
    → (i j : ℕ) → counted (min count (length ρ)) i ≡ true → counted (min count (length ρ)) j ≡ true
    → CellByIndex void es (f (rank_of ρ i) (rank_of ρ j)) (run void ρ count side len f es (rank_of ρ i) (rank_of ρ j)) i j

-- records of a table whose keys rise that have one rank have one key
abbrev pub RanksApart : (R : Type 0) → (R → R → Ordering) → Type 0
RanksApart R cmp = (used : ℕ) (rows : List R) → Rising cmp (used_rows used rows) → (r s : R) → known cmp r used rows ≡ true → known cmp s used rows ≡ true
    → rank_in cmp used rows r ≡ rank_in cmp used rows s → cmp r s ≡ Equal

-- the rank of a record is that of the table's record of its key
abbrev pub RanksFound : (R : Type 0) → (R → R → Ordering) → Type 0
RanksFound R cmp = (used : ℕ) (rows : List R) → Rising cmp (used_rows used rows) → (r : R) → known cmp r used rows ≡ true
    → (rank_in cmp used rows r < length (used_rows used rows)) × (cmp (slice_index_or (used_rows used rows) (rank_in cmp used rows r) r) r ≡ Equal)

-- a working row that is filled from records of different keys, all in a table whose keys rise, has distinct ranks for distinct indices
abbrev pub FillApart : (R : Type 0) → (R → R → Ordering) → Type 0
FillApart R cmp = (used : ℕ) (rows : List R) → Rising cmp (used_rows used rows) → (rs : List R) (row : List ℕ) → all_known cmp used rows rs ≡ true
    → ((i j : ℕ) (d : R) → i < length rs → j < length rs → cmp (slice_index_or rs i d) (slice_index_or rs j d) ≡ Equal → i ≡ j)
    → Apart (length rs) (map (rank_in cmp used rows) rs ++ drop (length rs) row)
