-- Places of rows and cells: no two cells share one. Assumes nothing.
use Rattle.std.proofs.Common.{◌≡◌, ℕ, zero, suc, ◌+◌, ◌*◌, ◌/◌, ◌<◌, ◌≤◌, min, max, true, false, cond, eqb, ltb, leb, List, length, get_or, set, sym, refl, ap, ◌∙◌, ⊎_elim, suc-mul, mul-suc, add-one, arith}
use native.Mathlib.Nat.{max_comm, min_comm}
use Rattle.std.proofs.lemmas.Bool.{cases_lt, cases_order, cases_eq, eq-eqb, ne_eqb, cond-false, and_left, and_right, and_parts, leb-true, ltb-true}
use Rattle.std.proofs.lemmas.List.{get_or-set_same, get_or-set_other}
use Rattle.std.proofs.lemmas.Nat.{mul-le}
use Rattle.triangle.specs.Triangle.{tri, spot, cell, low, same, seen, holds, openable, closable}

pub tri_more : (n : ℕ) → tri (n + 1) ≡ tri n + (n + 1)
tri_more n = rw add-one refl

pub tri_twice : (n : ℕ) → 2 * tri n ≡ n * (n + 1)
tri_twice zero = refl
tri_twice (suc n) = omega (arith, tri_twice n, mul-suc n (n + 1), suc-mul n (suc n + 1), mul-suc n n, mul-suc n (suc n), ap (λ k. n * k) (add-one n))

pub tri_half : (n : ℕ) → n * (n + 1) / 2 ≡ tri n
tri_half n = omega (arith, tri_twice n)

-- a row ends before a later one begins
pub tri-rows : (a b : ℕ) → a < b → tri a + suc a ≤ tri b
tri-rows a zero h = omega arith
tri-rows a (suc b) h =
    ⊎_elim
    (λ lt. let k = tri-rows a b lt in omega arith)
    (λ ge. let e : a ≡ b = omega arith in omega (arith, ap tri e))
    (cases_lt a b)

pub tri_le : (a b : ℕ) → a ≤ b → tri a ≤ tri b
tri_le a b h = ⊎_elim (λ lt. omega (arith, tri-rows a b lt)) (λ ge. let e : a ≡ b = omega arith in omega (arith, ap tri e)) (cases_lt a b)

-- the rows of a table are at most 2000
pub tri_bound : (n : ℕ) → n ≤ 2000 → tri n ≤ 2001000
tri_bound n h = omega (arith, tri_twice n, mul-le n (n + 1) 2000 2001 h (omega arith))

-- two places are one only if row and column are
pub low-row : (a b c d : ℕ) → b ≤ a → d ≤ c → tri a + b ≡ tri c + d → a ≡ c
low-row a b c d h k e =
    ⊎_elim (λ eq. eq)
    (⊎_elim (λ lt. absurd (omega (arith, tri-rows a c lt))) (λ gt. absurd (omega (arith, tri-rows c a gt))))
    (cases_order a c)

pub low_col : (a b c d : ℕ) → b ≤ a → d ≤ c → tri a + b ≡ tri c + d → b ≡ d
low_col a b c d h k e = omega (arith, ap tri (low-row a b c d h k e))

-- a place is below that of row n exactly when its row is
pub low_below : (a b n : ℕ) → b ≤ a → a < n → tri a + b < tri n
low_below a b n h k = omega (arith, tri-rows a n k)

pub below-low : (a b n : ℕ) → b ≤ a → tri a + b < tri n → a < n
below-low a b n h k = ⊎_elim (λ lt. lt) (λ ge. absurd (omega (arith, tri_le n a ge))) (cases_lt a n)

-- a write at the place p of row i and column j
module _ {X : Type 0} (z : X) (xs : List X) (p i j : ℕ) (v : X) (e : p ≡ tri i + j) where
  pub low_put_same : p < length xs → low z (set xs p v) i j ≡ v
  low_put_same h = rw (← e) (get_or-set_same xs p v z h)

  pub low_put_other : j ≤ i → (a b : ℕ) → b ≤ a → (a ≡ i → b ≡ j → ⊥) → low z (set xs p v) a b ≡ low z xs a b
  low_put_other hj a b h ne =
      get_or-set_other xs p (tri a + b) v z (λ q. ne (low-row a b i j h hj (q ∙ e)) (low_col a b i j h hj (q ∙ e)))

-- two cells have one place only if they are the same cell
pub spot-max : (i j a b : ℕ) → spot a b ≡ spot i j → max a b ≡ max i j
spot-max i j a b e = low-row (max a b) (min a b) (max i j) (min i j) (omega arith) (omega arith) e

pub spot-min : (i j a b : ℕ) → spot a b ≡ spot i j → min a b ≡ min i j
spot-min i j a b e = low_col (max a b) (min a b) (max i j) (min i j) (omega arith) (omega arith) e

pub cell_sym : {X : Type 0} (z : X) (xs : List X) (i j : ℕ) → cell z xs i j ≡ cell z xs j i
cell_sym z xs i j = rw (max_comm i j, min_comm i j) refl

-- a write changes one cell
pub cell_set_lem : {X : Type 0} (z : X) (xs : List X) (i j : ℕ) (v : X) → spot i j < length xs → (a b : ℕ)
    → cell z (set xs (spot i j) v) a b ≡ cond (same i j a b) v (cell z xs a b)
cell_set_lem z xs i j v h a b =
    ⊎_elim
    (λ e. let p = spot-max i j a b e in
    let q = spot-min i j a b e in
    ap (λ k. get_or (set xs (spot i j) v) k z) e ∙ get_or-set_same xs (spot i j) v z h
    ∙ sym (simp (eq-eqb (max a b) (max i j) p, eq-eqb (min a b) (min i j) q)))
    (λ ne. get_or-set_other xs (spot i j) (spot a b) v z ne
    ∙ sym (cond-false (same i j a b) v (cell z xs a b) (different ne)))
    (cases_eq (spot a b) (spot i j))
  where
    different : (spot a b ≡ spot i j → ⊥) → same i j a b ≡ false
    different ne =
        ⊎_elim
        (λ p. ⊎_elim
        (λ q. absurd (ne (ap (λ k. tri k + min a b) p ∙ ap (λ k. tri (max i j) + k) q)))
        (λ nq. and_right (eqb (max a b) (max i j)) (eqb (min a b) (min i j)) (ne_eqb (min a b) (min i j) nq))
        (cases_eq (min a b) (min i j)))
        (λ np. and_left (eqb (max a b) (max i j)) (eqb (min a b) (min i j)) (ne_eqb (max a b) (max i j) np))
        (cases_eq (max a b) (max i j))

pub seen-within : (len i j : ℕ) → seen len i j ≡ true → spot i j < len
seen-within len i j s = ltb-true (spot i j) len (and_parts (ltb (max i j) 2000) (ltb (spot i j) len) s).1

pub holds_parts : (len n : ℕ) → true ≡ holds len n → (n ≤ 2000) × (tri n ≤ len)
holds_parts len n e =
    let p = and_parts (leb n 2000) (leb (tri n) len) (sym e) in (leb-true n 2000 p.0, leb-true (tri n) len p.1)

-- what it takes to open a rank, and to close one
pub openable-parts : (len n r : ℕ) → true ≡ openable len n r → (n < 2000) × (tri (suc n) ≤ len) × (r ≤ n)
openable-parts len n r e =
    let (h, l) = and_parts (holds len (n + 1)) (leb r n) (sym e) in
    let (m, t) = holds_parts len (n + 1) (sym h) in
    (omega arith, omega (arith, tri_more n), leb-true r n l)

pub closable-parts : (len n r : ℕ) → true ≡ closable len n r → (n ≤ 2000) × (tri n ≤ len) × (r < n)
closable-parts len n r e =
    let (h, l) = and_parts (holds len n) (ltb r n) (sym e) in
    let (m, t) = holds_parts len n (sym h) in
    (m, t, ltb-true r n l)
