-- A list of the places of p rows is the rows of its own matrix. Assumes nothing.
use Rattle.std.proofs.Common.{◌≡◌, ℕ, zero, suc, ◌+◌, ◌-◌, ◌<◌, ◌≤◌, min, max, List, map, length, get_or, sym, refl, ap, ◌∙◌, ⊎_elim, arith}
use Rattle.std.specs.List.{range_with_len}
use Rattle.std.proofs.lemmas.List.FromFn.{length-map-range_with_len, get_or-map-range_with_len}
use Rattle.std.proofs.lemmas.List.{ext_get_or, get_or_append_left, get_or-append_right, length-append}
use Rattle.std.proofs.lemmas.Bool.{cases_lt}
use Rattle.triangle.specs.Triangle.{tri, spot, cell, low, rows_of}
use Rattle.triangle.proofs.Tri.{low_below, below-low}

-- every place is that of a row and a column
pub row_and_column : (k : ℕ) → (i : ℕ) × (j : ℕ) × ((j ≤ i) × (k ≡ tri i + j))
row_and_column zero = (0, 0, (omega arith, refl))
row_and_column (suc k) =
    let p = row_and_column k in
    ⊎_elim
    (λ lt. (p.0, suc p.1, (lt, omega (arith, p.2.1))))
    (λ ge. (suc p.0, 0, (omega arith, omega (arith, p.2.0, p.2.1))))
    (cases_lt p.1 p.0)

pub length-rows_of : {X : Type 0} (n : ℕ) (f : ℕ → ℕ → X) → length (rows_of n f) ≡ tri n
length-rows_of zero f = refl
length-rows_of (suc n) f =
    let m = length-map-range_with_len (λ j. f n j) 0 (suc n) in
    let l = length-rows_of n f in
    length-append (rows_of n f) (map (λ j. f n j) (range_with_len 0 (suc n))) ∙ omega arith

pub low-rows_of : {X : Type 0} (z : X) (n : ℕ) (f : ℕ → ℕ → X) (i j : ℕ) → j ≤ i → i < n → low z (rows_of n f) i j ≡ f i j
low-rows_of z zero f i j h lt = absurd (omega arith)
low-rows_of z (suc n) f i j h lt =
    let l = length-rows_of n f in
    let row = map (λ b. f n b) (range_with_len 0 (suc n)) in
    ⊎_elim
    (λ less. get_or_append_left (rows_of n f) row z (tri i + j) (omega (arith, low_below i j n h less)) ∙ low-rows_of z n f i j h less)
    (λ ge.
    let e : i ≡ n = omega arith in
    let t : tri i ≡ tri n = ap tri e in
    get_or-append_right (rows_of n f) row (tri n) (tri i + j) z l (omega arith)
    ∙ get_or-map-range_with_len (λ b. f n b) 0 (suc n) (tri i + j - tri n) j z (omega arith) (omega arith)
    ∙ ap (λ m. f m j) (sym e))
    (cases_lt i n)

-- lists that agree at each row and column are the same
pub by_low : {X : Type 0} (z : X) (p : ℕ) (xs ys : List X) → length xs ≡ tri p → length ys ≡ tri p → ((i j : ℕ) → j ≤ i → i < p → low z xs i j ≡ low z ys i j) → xs ≡ ys
by_low z p xs ys lx ly e =
    ext_get_or z xs ys (lx ∙ sym ly)
    (λ k h.
    let (i, j, (le, at)) = row_and_column k in
    let lt : i < p = below-low i j p le (omega arith) in
    ap (λ m. get_or xs m z) at ∙ e i j le lt ∙ sym (ap (λ m. get_or ys m z) at))

module _ {X : Type 0} (z : X) (xs : List X) (p : ℕ) (long : length xs ≡ tri p) where
  -- a matrix that the list has
  pub drawn_as : (f : ℕ → ℕ → X) → ((a b : ℕ) → cell z xs a b ≡ f a b) → xs ≡ rows_of p f
  drawn_as f is =
      by_low z p xs (rows_of p f) long (length-rows_of p f)
      (λ i j le lt.
      let m : max i j ≡ i = omega arith in
      let n : min i j ≡ j = omega arith in
      sym (ap (λ a. get_or xs (tri a + min i j) z) m ∙ ap (λ b. get_or xs (tri i + b) z) n) ∙ is i j ∙ sym (low-rows_of z p f i j le lt))

-- lists of one length with the same cells are the same
pub pinned : {X : Type 0} (z : X) (xs ys : List X) → length xs ≡ length ys → ((i j : ℕ) → cell z xs i j ≡ cell z ys i j) → xs ≡ ys
pinned z xs ys len e =
    ext_get_or z xs ys len
    (λ k h.
    let (i, j, (le, at)) = row_and_column k in
    let m : max i j ≡ i = omega arith in
    let n : min i j ≡ j = omega arith in
    let q : k ≡ spot i j = at ∙ sym (ap (λ a. tri a + min i j) m ∙ ap (λ b. tri i + b) n) in
    ap (λ s. get_or xs s z) q ∙ e i j ∙ sym (ap (λ s. get_or ys s z) q))
