-- The lines of each block: as long as its kind of line is, and as many as its records or cells that are not zero. Assumes nothing.
use Rattle.std.proofs.Common.{◌≡◌, ℕ, zero, suc, ◌+◌, ◌*◌, ◌≤◌, Bool, true, false, cond, List, [], ◌∷◌, ◌++◌, map, length, take, sym, refl, ap, ◌∙◌, arith}
use Rattle.copies.specs.Copy.{cell_line, ended, matrix_lines, numbered, row_lines, shorn}
use Rattle.copies.specs.Lengths.{nonzero}
use Rattle.copy_laws.proofs.Assembled.{Good, Line}
use Rattle.copy_laws.proofs.Splitting.{length_ended_all}
use Rattle.copy_laws.proofs.Widths.{Cut, cell_cut, parameter_cut}
use Rattle.decimals.specs.declared.number.Number.{Number}
use Rattle.record_laws.specs.Valid.{ValidParameter}
use Rattle.headings.specs.Elements.{matrix_text}
use Rattle.records.specs.Copies.{parameter_text}
use Rattle.records.specs.declared.parameters.Parameter.{Parameter}
use Rattle.std.proofs.lemmas.List.FromFn.{map-range_with_len_more}
use Rattle.std.proofs.ByRecursion.{All-append, All-weaker}
use Rattle.std.proofs.lemmas.List.{length-append}
use Rattle.std.proofs.lemmas.Bool.{cond_both}
use Rattle.std.specs.List.{range_with_len, AllByRecursion as All}
use Rattle.triangle.specs.Triangle.{is_zero_number, rows_of}

-- without the blanks at the end
abbrev pub trim : ℕ → List ℕ → List ℕ
trim w t = shorn t

-- ---- lines of one width

pub line_of : (w : ℕ) (t : List ℕ) → Cut w t → Line w (shorn t)
line_of w t c = ((c.shown, c.short, c.ended), c.long)

pub all_good : (w : ℕ) (ls : List (List ℕ)) → All (Line w) ls → All Good ls
all_good w ls a = All-weaker (Line w) Good (λ l h. h.0) ls a

-- n lines of w bytes, each with its end
pub lines_long : (w n : ℕ) (ls : List (List ℕ)) → All (Line w) ls → length ls ≡ n → length (ended ls) ≡ (w + 1) * n
lines_long w n ls a e = length_ended_all w ls (All-weaker (Line w) (λ l. length l ≡ w) (λ l h. h.1) ls a) ∙ ap (λ k. (w + 1) * k) e

-- ---- sites and spans

module _ {X : Type 0} (w : ℕ) (text : X → List ℕ) where
  pub map-taken : (xs : List X) → All (λ x. Cut w (text x)) xs → map (λ x. take w (text x)) xs ≡ map (λ x. shorn (text x)) xs
  map-taken [] a = refl
  map-taken (x ∷ xs) a = λ i. sym a.0.taken i ∷ map-taken xs a.1 i

  pub map-lines : (xs : List X) → All (λ x. Cut w (text x)) xs → All (Line w) (map (λ x. shorn (text x)) xs)
  map-lines [] a = tt
  map-lines (x ∷ xs) a = (line_of w (text x) a.0, map-lines xs a.1)

-- ---- estimates and a prioris

pub numbered-taken : (i : ℕ) (ps : List Parameter) → All ValidParameter ps → numbered take i ps ≡ numbered trim i ps
numbered-taken i [] a = refl
numbered-taken i (p ∷ ps) a = λ k. sym (parameter_cut i p a.0).taken k ∷ numbered-taken (i + 1) ps a.1 k

pub numbered-lines : (i : ℕ) (ps : List Parameter) → All ValidParameter ps → All (Line 80) (numbered trim i ps)
numbered-lines i [] a = tt
numbered-lines i (p ∷ ps) a = (line_of 80 (parameter_text i p) (parameter_cut i p a.0), numbered-lines (i + 1) ps a.1)

pub length-numbered : (i : ℕ) (ps : List Parameter) → length (numbered trim i ps) ≡ length ps
length-numbered i [] = refl
length-numbered i (p ∷ ps) = ap suc (length-numbered (i + 1) ps)

-- ---- cells

module _ (f : ℕ → ℕ → Number) where
  cell-taken : (i j : ℕ) (v : Number) → cell_line take i j v ≡ cell_line trim i j v
  cell-taken i j v = ap (λ (t : List ℕ). cond (is_zero_number v) [] (t ∷ [])) (sym (cell_cut (i + 1) (j + 1) v).taken)

  row-taken : (i j : ℕ) → row_lines take f i j ≡ row_lines trim f i j
  row-taken i zero = refl
  row-taken i (suc j) = λ k. row-taken i j k ++ cell-taken i j (f i j) k

  pub matrix_taken : (n : ℕ) → matrix_lines take f n ≡ matrix_lines trim f n
  matrix_taken zero = refl
  matrix_taken (suc n) = λ k. matrix_taken n k ++ row-taken n (suc n) k

  cell-lines : (i j : ℕ) (v : Number) → All (Line 34) (cell_line trim i j v)
  cell-lines i j v =
      let t : List ℕ = matrix_text (i + 1) (j + 1) v in
      cond_both (is_zero_number v) [] (shorn t ∷ []) (All (Line 34)) (λ _. tt) (λ _. (line_of 34 t (cell_cut (i + 1) (j + 1) v), tt))

  row-lines : (i j : ℕ) → All (Line 34) (row_lines trim f i j)
  row-lines i zero = tt
  row-lines i (suc j) = All-append (Line 34) (row_lines trim f i j) (cell_line trim i j (f i j)) (row-lines i j) (cell-lines i j (f i j))

  pub matrix_lines_lem : (n : ℕ) → All (Line 34) (matrix_lines trim f n)
  matrix_lines_lem zero = tt
  matrix_lines_lem (suc n) = All-append (Line 34) (matrix_lines trim f n) (row_lines trim f n (suc n)) (matrix_lines_lem n) (row-lines n (suc n))

-- ---- how many cells are not zero

nonzero_both : (vs ws : List Number) → nonzero (vs ++ ws) ≡ nonzero vs + nonzero ws
nonzero_both [] ws = omega arith
nonzero_both (v ∷ vs) ws = one_more (is_zero_number v) (nonzero (vs ++ ws)) (nonzero vs) (nonzero ws) (nonzero_both vs ws)
  where
    one_more : (b : Bool) (m n k : ℕ) → m ≡ n + k → cond b m (suc m) ≡ cond b n (suc n) + k
    one_more true m n k e = e
    one_more false m n k e = omega arith

pub nonzero-few : (vs : List Number) → nonzero vs ≤ length vs
nonzero-few [] = omega arith
nonzero-few (v ∷ vs) =
    let r = nonzero-few vs in
    cond_both (is_zero_number v) (nonzero vs) (suc (nonzero vs)) (λ n. n ≤ suc (length vs)) (λ _. omega arith) (λ _. omega arith)

one_line : (b : Bool) (t : List ℕ) → length (cond b [] (t ∷ [])) ≡ cond b 0 1
one_line true t = refl
one_line false t = refl

module _ (f : ℕ → ℕ → Number) where
  length-row : (i j : ℕ) → length (row_lines trim f i j) ≡ nonzero (map (λ b. f i b) (range_with_len 0 j))
  length-row i zero = refl
  length-row i (suc j) =
      let here : List Number = map (λ b. f i b) (range_with_len 0 j) in
      let last : length (cell_line trim i j (f i j)) ≡ nonzero (f i j ∷ []) = one_line (is_zero_number (f i j)) (shorn (matrix_text (i + 1) (j + 1) (f i j))) in
      let next : suc j ≡ j + 1 = omega arith in
      let more : map (λ b. f i b) (range_with_len 0 (suc j)) ≡ here ++ (f i j ∷ []) =
      ap (λ k. map (λ b. f i b) (range_with_len 0 k)) next ∙ map-range_with_len_more (λ b. f i b) 0 j j (omega arith) in
      length-append (row_lines trim f i j) (cell_line trim i j (f i j)) ∙ ((λ k. length-row i j k + last k) ∙ (sym (nonzero_both here (f i j ∷ [])) ∙ ap nonzero (sym more)))

  pub length_matrix : (n : ℕ) → length (matrix_lines trim f n) ≡ nonzero (rows_of n f)
  length_matrix zero = refl
  length_matrix (suc n) =
      length-append (matrix_lines trim f n) (row_lines trim f n (suc n))
      ∙ ((λ k. length_matrix n k + length-row n (suc n) k) ∙ sym (nonzero_both (rows_of n f) (map (λ b. f n b) (range_with_len 0 (suc n)))))
