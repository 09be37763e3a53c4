-- What opening and closing a rank come to, in words of estimates and their cells.
use Rattle.std.specs.Prelude.{◌≡◌, ℕ, ◌+◌, ◌-◌, ◌<◌, ◌≤◌, max, true, cond, ◌||◌, List, length, ◌==◌}
use Rattle.triangle.specs.Triangle.{tri, spot, cell, same, skip, jump, spread, opened, closed, rows_of}

-- the matrix f has n ranks: all past them is z
abbrev pub Blank : {X : Type 0} → X → ℕ → (ℕ → ℕ → X) → Type 0
Blank z n f = (i j : ℕ) → n ≤ max i j → f i j ≡ z

-- two pairs of ranks have one place exactly if they are the same pair, and p rows have a place for each pair below p
pub record Places : Type 0 where
  pub one : (i j a b : ℕ) → spot a b ≡ spot i j → same i j a b ≡ true
  pub either : (i j : ℕ) → spot i j ≡ spot j i
  pub within : (p i j : ℕ) → max i j < p → spot i j < tri p

-- after the moves every cell between two old ranks stands at its new place
abbrev pub Moved : (X : Type 0) → Type 0
Moved X = (f : ℕ → ℕ → X) (n r i j : ℕ) → r ≤ n → i < n → j < n → spread n r f (jump r i) (jump r j) ≡ f i j

-- a rank opened: the new rank's cells are z, those between others keep their values under the shifted ranks, and all past the last row is z
abbrev pub Opened : (X : Type 0) → X → Type 0
Opened X z = (f : ℕ → ℕ → X) (n r : ℕ) → r ≤ n → Blank z n f
    → ((i j : ℕ) → opened z n r f i j ≡ cond (i == r || j == r) z (f (skip r i) (skip r j))) × Blank z (n + 1) (opened z n r f)

-- a rank closed: the cells between others keep their values under the shifted ranks, and all past the last row is z
abbrev pub Closed : (X : Type 0) → X → Type 0
Closed X z = (f : ℕ → ℕ → X) (n r : ℕ) → r < n → Blank z n f
    → ((i j : ℕ) → closed z n r f i j ≡ f (jump r i) (jump r j)) × Blank z (n - 1) (closed z n r f)

-- a rank opened and closed again
abbrev pub Undone : (X : Type 0) → X → Type 0
Undone X z = (f : ℕ → ℕ → X) (n r : ℕ) → r ≤ n → Blank z n f → (i j : ℕ) → closed z (n + 1) r (opened z n r f) i j ≡ f i j

-- the cells fix the list: lists of one length with the same cells are the same, and one of p rows is the rows of its matrix
pub record Pinned (X : Type 0) (z : X) : Type 0 where
  pub only : (xs ys : List X) → length xs ≡ length ys → ((i j : ℕ) → cell z xs i j ≡ cell z ys i j) → xs ≡ ys
  pub rows : (p : ℕ) (xs : List X) → length xs ≡ tri p → xs ≡ rows_of p (cell z xs)
