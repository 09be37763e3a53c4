-- The lines of records and cells, one after another.
use Rattle.std.proofs.Common.{◌≡◌, ℕ, ◌+◌, ◌-◌, ◌<◌, ◌≤◌, ltb, List, [], ◌∷◌, ◌++◌, map, length, get_or, take, drop, sym, refl, ap, ◌∙◌, arith}
use Rattle.copies.specs.Bodies.{lines_from, cells_from, next_place}
use Rattle.copies.specs.Copy.{cell_line, numbered}
use Rattle.copies.specs.declared.lines.Place.{Place}
use Rattle.decimals.specs.declared.number.Number.{Number}
use Rattle.records.specs.Copies.{parameter_text}
use Rattle.records.specs.declared.parameters.Parameter.{Parameter}
use Rattle.std.proofs.lemmas.List.{drop_all, drop_more}
use Rattle.std.proofs.lemmas.Bool.{cond_both}

pub lines_more : {R : Type 0} (f : ℕ → R → List ℕ) (k : ℕ) (xs : List R) (i : ℕ) (x : R) → i < length xs → x ≡ get_or xs i x
    → lines_from f k (drop i xs) ≡ (f k x ∷ []) ++ lines_from f (k + 1) (drop (i + 1) xs)
lines_more f k xs i x lt e = ap (lines_from f k) (drop_more xs i x lt) ∙ ap (λ y. f k y ∷ lines_from f (k + 1) (drop (i + 1) xs)) (sym e)

pub lines_all : {R : Type 0} (f : ℕ → R → List ℕ) (k : ℕ) (xs : List R) (i : ℕ) → length xs ≤ i → lines_from f k (drop i xs) ≡ []
lines_all f k xs i le = ap (lines_from f k) (drop_all i xs le)

pub cells_more : (p : Place) (vs : List Number) (i : ℕ) (d : Number) → i < length vs
    → cells_from p (drop i vs) ≡ cell_line take p.row p.column (get_or vs i d) ++ cells_from (next_place p) (drop (i + 1) vs)
cells_more p vs i d lt = ap (cells_from p) (drop_more vs i d lt)

pub cells_all : (p : Place) (vs : List Number) (i : ℕ) → length vs ≤ i → cells_from p (drop i vs) ≡ []
cells_all p vs i le = ap (cells_from p) (drop_all i vs le)

-- the same lines as the fair copy has them
pub lines_mapped : {R : Type 0} (f : R → List ℕ) (k : ℕ) (xs : List R) → lines_from (λ i x. f x) k xs ≡ map f xs
lines_mapped f k [] = refl
lines_mapped f k (x ∷ xs) = ap (λ ls. f x ∷ ls) (lines_mapped f (k + 1) xs)

pub lines-numbered : (k : ℕ) (ps : List Parameter) → lines_from (λ i p. take 80 (parameter_text i p)) k ps ≡ numbered take k ps
lines-numbered k [] = refl
lines-numbered k (p ∷ ps) = ap (λ ls. take 80 (parameter_text k p) ∷ ls) (lines-numbered (k + 1) ps)

-- the front of the columns, as the checker reads it
pub front : (n m : ℕ) (xs ys : List ℕ) → n ≡ m → xs ≡ ys → take (n - 0) xs ≡ take m ys
front n m xs ys e f = let k : n - 0 ≡ m = omega arith in ap (λ i. take i xs) k ∙ ap (take m) f

-- the row and the column of the next place
pub next_row : (p : Place) (i : ℕ) → p.row ≤ i → (next_place p).row ≤ i + 1
next_row p i h = cond_both {A = Place} (ltb p.column p.row) (record { row = p.row; column = p.column + 1 }) (record { row = p.row + 1; column = 0 })
    (λ q. q.row ≤ i + 1) (λ t. omega arith) (λ t. omega arith)

pub next_column : (p : Place) (i : ℕ) → p.column ≤ i → (next_place p).column ≤ i + 1
next_column p i h = cond_both {A = Place} (ltb p.column p.row) (record { row = p.row; column = p.column + 1 }) (record { row = p.row + 1; column = 0 })
    (λ q. q.column ≤ i + 1) (λ t. omega arith) (λ t. omega arith)
