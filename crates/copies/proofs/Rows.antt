-- The cells of a lower triangle, given one after another, are its rows.
use Rattle.std.proofs.Common.{◌≡◌, ℕ, zero, suc, ◌+◌, ◌<◌, ◌≤◌, min, max, ltb, List, [], ◌∷◌, ◌++◌, length, get_or, take, sym, refl, ap, ◌∙◌, inl, inr, add-one, arith}
use Rattle.copies.specs.Bodies.{cells_from, next_place}
use Rattle.copies.specs.Copy.{cell_line, matrix_lines, row_lines}
use Rattle.copies.specs.declared.lines.Place.{Place}
use Rattle.decimals.specs.Number.{zero_number}
use Rattle.decimals.specs.declared.number.Number.{Number}
use Rattle.std.proofs.lemmas.List.{append_assoc, append-nil, get_or_at, length-append, length_push}
use Rattle.std.proofs.lemmas.Bool.{cases_lt, cases_order, cond-true, cond-false, lt-ltb, le-ltb}
use Rattle.triangle.specs.Triangle.{cell, tri}

tri_less : (i n : ℕ) → i < n → tri i + suc i ≤ tri n
tri_less i zero h = absurd (omega arith)
tri_less i (suc n) h = elim (cases_lt i n) [
  | inl lt ↦ let k = tri_less i n lt in omega arith
  | inr le ↦ let e : i ≡ n = omega arith in let k : tri i ≡ tri n = ap tri e in omega arith
]

-- so many cells fill the rows below n just where the next place is the first of row n
tri_once : (i j n : ℕ) → j ≤ i → tri i + j ≡ tri n → (i ≡ n) × (j ≡ 0)
tri_once i j n le e = elim (cases_order i n) [
  | inl same ↦ let k : tri i ≡ tri n = ap tri same in (same, omega arith)
  | inr apart ↦ elim apart [
    | inl lt ↦ let k = tri_less i n lt in absurd (omega arith)
    | inr gt ↦ let k = tri_less n i gt in absurd (omega arith)
  ]
]

abbrev cell_in : List Number → ℕ → ℕ → Number
cell_in vs i j = cell zero_number vs i j

regroup : (a r c d t : List (List ℕ)) → c ≡ d → (a ++ r) ++ (c ++ t) ≡ (a ++ (r ++ d)) ++ t
regroup a r c d t e =
    ap (λ x. (a ++ r) ++ (x ++ t)) e ∙ sym (append_assoc (a ++ r) d t) ∙ ap (λ x. x ++ t) (append_assoc a r d)

cell_here : (vs us ws : List Number) (v : Number) (i j : ℕ) → vs ≡ us ++ v ∷ ws → length us ≡ tri i + j → j ≤ i → cell_in vs i j ≡ v
cell_here vs us ws v i j e k le =
    let m : max i j ≡ i = omega arith in
    let s : min i j ≡ j = omega arith in
    ap (λ x. get_or vs (tri x + min i j) zero_number) m ∙ ap (λ x. get_or vs (tri i + x) zero_number) s ∙ ap (λ x. get_or x (tri i + j) zero_number) e
    ∙ get_or_at us v ws zero_number (tri i + j) k

-- the rows so far, and the cells from the place (i, j) on
walk : (vs : List Number) (n : ℕ) → length vs ≡ tri n → (us ws : List Number) (i j : ℕ) → vs ≡ us ++ ws → length us ≡ tri i + j → j ≤ i
    → (matrix_lines take (cell_in vs) i ++ row_lines take (cell_in vs) i j) ++ cells_from (record { row = i; column = j }) ws ≡ matrix_lines take (cell_in vs) n
walk vs n whole us [] i j e k le =
    let f = cell_in vs in
    let l : length vs ≡ length us + 0 = ap length e ∙ length-append us [] in
    let o = tri_once i j n le (omega arith) in
    append-nil (matrix_lines take f i ++ row_lines take f i j)
    ∙ ap (λ x. matrix_lines take f i ++ row_lines take f i x) o.1
    ∙ append-nil (matrix_lines take f i)
    ∙ ap (matrix_lines take f) o.0
walk vs n whole us (v ∷ ws) i j e k le =
    let f = cell_in vs in
    let rows = matrix_lines take f i in
    let row = row_lines take f i j in
    let here : cell_line take i j v ≡ cell_line take i j (f i j) = ap (cell_line take i j) (sym (cell_here vs us ws v i j e k le)) in
    let next = cells_from (next_place (record { row = i; column = j })) ws in
    let e' : vs ≡ (us ++ v ∷ []) ++ ws = e ∙ sym (append_assoc us (v ∷ []) ws) in
    let k' : length (us ++ v ∷ []) ≡ length us + 1 = length_push us v in
    let front = regroup rows row (cell_line take i j v) (cell_line take i j (f i j)) next here in
    elim (cases_lt j i) [
      | inl lt ↦
          let p : next_place (record { row = i; column = j }) ≡ record { row = i; column = j + 1 } = cond-true {A = Place} (ltb j i) (record { row = i; column = j + 1 }) (record { row = i + 1; column = 0 }) (lt-ltb j i lt) in
          front
          ∙ ap (λ x. (rows ++ row_lines take f i (suc j)) ++ cells_from x ws) p
          ∙ ap (λ x. (rows ++ row_lines take f i x) ++ cells_from (record { row = i; column = j + 1 }) ws) (sym (add-one j))
          ∙ walk vs n whole (us ++ v ∷ []) ws i (j + 1) e' (omega arith) (omega arith)
      | inr ge ↦
          let p : next_place (record { row = i; column = j }) ≡ record { row = i + 1; column = 0 } = cond-false {A = Place} (ltb j i) (record { row = i; column = j + 1 }) (record { row = i + 1; column = 0 }) (le-ltb j i ge) in
          let d : j ≡ i = omega arith in
          let t : tri (i + 1) ≡ tri i + suc i = ap tri (add-one i) in
          front
          ∙ ap (λ x. (rows ++ row_lines take f i (suc j)) ++ cells_from x ws) p
          ∙ ap (λ x. (rows ++ row_lines take f i (suc x)) ++ cells_from (record { row = i + 1; column = 0 }) ws) d
          ∙ ap (λ x. matrix_lines take f x ++ cells_from (record { row = i + 1; column = 0 }) ws) (sym (add-one i))
          ∙ ap (λ x. x ++ cells_from (record { row = i + 1; column = 0 }) ws) (sym (append-nil (matrix_lines take f (i + 1))))
          ∙ walk vs n whole (us ++ v ∷ []) ws (i + 1) 0 e' (omega arith) (omega arith)
    ]

pub walked : (vs : List Number) (n : ℕ) → length vs ≡ tri n → cells_from (record { row = 0; column = 0 }) vs ≡ matrix_lines take (λ i j. cell zero_number vs i j) n
walked vs n whole = walk vs n whole [] vs 0 0 refl refl (omega arith)
