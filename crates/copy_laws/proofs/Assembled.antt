-- The lines of a copy put together from those of its blocks. Assumes nothing.
use Rattle.std.proofs.Common.{◌≡◌, ℕ, ◌+◌, ◌*◌, ◌≤◌, true, ◌&&◌, leb, List, [], ◌∷◌, ◌++◌, length, codes, sym, refl, subst, inl, inr, arith, lit≤}
use Rattle.codes.specs.Text.{Ended}
use Rattle.codes.specs.declared.letters.MatrixKind.{MatrixKind}
use Rattle.codes.specs.declared.letters.MatrixKind.TheVariants.{Correlation, Covariance, Information}
use Rattle.copies.specs.Copy.{block, ended, matrix_title}
use Rattle.copy_laws.proofs.Shearing.{Closed, closed_after}
use Rattle.copy_laws.proofs.Splitting.{length_ended_both, length_ended_more}
use Rattle.frame.specs.Lines.{all_printable, printable}
use Rattle.record_laws.specs.Valid.{Printable}
use Rattle.std.proofs.ByRecursion.{All-append}
use Rattle.std.proofs.lemmas.Bool.{and_parts, leb-true}
use Rattle.std.specs.List.{AllByRecursion as All}
use Rattle.tables.specs.Laws.{Among}

-- ---- what holds of each record

pub all_by_among : {X : Type 0} (P : X → Type 0) (xs : List X) → ((x : X) → Among x xs → P x) → All P xs
all_by_among P [] h = tt
all_by_among P (x ∷ xs) h = (h x (inl refl), all_by_among P xs (λ y m. h y (inr m)))

pub all_at_among : {X : Type 0} (P : X → Type 0) (xs : List X) → All P xs → (x : X) → Among x xs → P x
all_at_among P [] a x m = absurd m
all_at_among P (y ∷ ys) a x (inl e) = subst P (sym e) a.0
all_at_among P (y ∷ ys) a x (inr m) = all_at_among P ys a.1 x m

-- ---- good lines

-- it can be printed, has at most 80 bytes and does not end in a blank
abbrev pub Good : List ℕ → Type 0
Good l = Printable l × (length l ≤ 80) × Ended l

-- with w bytes
abbrev pub Line : ℕ → List ℕ → Type 0
Line w l = Good l × (length l ≡ w)

pub is_printable : (l : List ℕ) → all_printable l ≡ true → Printable l
is_printable [] e = tt
is_printable (c ∷ l) e =
    let (here, rest) = and_parts (printable c) (all_printable l) e in
    let (low, high) = and_parts (leb 32 c) (leb c 126) here in
    ((leb-true 32 c low, leb-true c 126 high), is_printable l rest)

-- ---- titles

-- a title of n bytes
record Titled (n : ℕ) (t : List ℕ) : Type 0 where
  shown : Printable t
  closed : Closed t
  long : length t ≡ n
  short : n ≤ 79

titled : (n : ℕ) (t : List ℕ) → all_printable t ≡ true → length t ≡ n → (leb 1 n && leb n 79) ≡ true → Ended t → Titled n t
titled n t shown long size e =
    let (some, short) = and_parts (leb 1 n) (leb n 79) size in
    let k = leb-true 1 n some in
    record { shown = is_printable t shown; closed = record { ended = e; some = omega arith }; long = long; short = leb-true n 79 short }

sites_titled : Titled 7 (codes "SITE/ID")
sites_titled = titled 7 (codes "SITE/ID") refl refl refl (λ e. omega arith)

spans_titled : Titled 15 (codes "SOLUTION/EPOCHS")
spans_titled = titled 15 (codes "SOLUTION/EPOCHS") refl refl refl (λ e. omega arith)

estimates_titled : Titled 17 (codes "SOLUTION/ESTIMATE")
estimates_titled = titled 17 (codes "SOLUTION/ESTIMATE") refl refl refl (λ e. omega arith)

aprioris_titled : Titled 16 (codes "SOLUTION/APRIORI")
aprioris_titled = titled 16 (codes "SOLUTION/APRIORI") refl refl refl (λ e. omega arith)

matrix_titled : (k : MatrixKind) → Titled 31 (matrix_title k)
matrix_titled Correlation = titled 31 (matrix_title Correlation) refl refl refl (λ e. omega arith)
matrix_titled Covariance = titled 31 (matrix_title Covariance) refl refl refl (λ e. omega arith)
matrix_titled Information = titled 31 (matrix_title Information) refl refl refl (λ e. omega arith)

-- ---- blocks

-- a title or an end: a sign and the title
title_good : (c n : ℕ) (t : List ℕ) → (32 ≤ c) × (c ≤ 126) → Titled n t → Good (c ∷ t)
title_good c n t b d =
    let l = d.long in
    let k = d.short in
    ((b, d.shown), omega arith, (closed_after (c ∷ []) t d.closed).ended)

block-good : (n : ℕ) (t : List ℕ) (ls : List (List ℕ)) → Titled n t → All Good ls → All Good (block t ls)
block-good n t ls d a =
    (title_good 43 n t (lit≤ tt, lit≤ tt) d, All-append Good ls ((45 ∷ t) ∷ []) a (title_good 45 n t (lit≤ tt, lit≤ tt) d, tt))

block-long : (n : ℕ) (t : List ℕ) (ls : List (List ℕ)) → Titled n t → length (ended (block t ls)) ≡ 2 * n + 4 + length (ended ls)
block-long n t ls d =
    let m = d.long in
    let a = length_ended_more (43 ∷ t) (ls ++ ((45 ∷ t) ∷ [])) in
    let b = length_ended_both ls ((45 ∷ t) ∷ []) in
    let c = length_ended_more (45 ∷ t) [] in
    omega arith

-- ---- all lines

-- the header and the lines of the five blocks
abbrev pub assembled : MatrixKind → List ℕ → List (List ℕ) → List (List ℕ) → List (List ℕ) → List (List ℕ) → List (List ℕ) → List (List ℕ)
assembled k header sites spans estimates aprioris cells =
    header
    ∷ (block (codes "SITE/ID") sites
    ++ (block (codes "SOLUTION/EPOCHS") spans
    ++ (block (codes "SOLUTION/ESTIMATE") estimates
    ++ (block (codes "SOLUTION/APRIORI") aprioris
    ++ (block (matrix_title k) cells
    ++ (codes "%ENDSNX" ∷ []))))))

module _ (k : MatrixKind) (header : List ℕ) (sites spans estimates aprioris cells : List (List ℕ)) where
  abbrev from_cells_lem : List (List ℕ)
  from_cells_lem = block (matrix_title k) cells ++ (codes "%ENDSNX" ∷ [])

  abbrev from_aprioris_lem : List (List ℕ)
  from_aprioris_lem = block (codes "SOLUTION/APRIORI") aprioris ++ from_cells_lem

  abbrev from_estimates_lem : List (List ℕ)
  from_estimates_lem = block (codes "SOLUTION/ESTIMATE") estimates ++ from_aprioris_lem

  abbrev from_spans_lem : List (List ℕ)
  from_spans_lem = block (codes "SOLUTION/EPOCHS") spans ++ from_estimates_lem

  abbrev from_sites_lem : List (List ℕ)
  from_sites_lem = block (codes "SITE/ID") sites ++ from_spans_lem

  footer-good : Good (codes "%ENDSNX")
  footer-good = (is_printable (codes "%ENDSNX") refl, lit≤ tt, λ e. omega arith)

  pub assembled_good : Good header → All Good sites → All Good spans → All Good estimates → All Good aprioris → All Good cells → All Good (assembled k header sites spans estimates aprioris cells)
  assembled_good h a b c d e = (
    h,
    All-append Good (block (codes "SITE/ID") sites) from_spans_lem (block-good 7 (codes "SITE/ID") sites sites_titled a) (
        All-append Good (block (codes "SOLUTION/EPOCHS") spans) from_estimates_lem (block-good 15 (codes "SOLUTION/EPOCHS") spans spans_titled b) (
        All-append Good (block (codes "SOLUTION/ESTIMATE") estimates) from_aprioris_lem (block-good 17 (codes "SOLUTION/ESTIMATE") estimates estimates_titled c) (
        All-append Good (block (codes "SOLUTION/APRIORI") aprioris) from_cells_lem (block-good 16 (codes "SOLUTION/APRIORI") aprioris aprioris_titled d) (
        All-append Good (block (matrix_title k) cells) (codes "%ENDSNX" ∷ []) (block-good 31 (matrix_title k) cells (matrix_titled k) e) (
          footer-good,
          tt,
        ))))),
  )

  cells-long : length (ended from_cells_lem) ≡ 74 + length (ended cells)
  cells-long = omega (arith, block-long 31 (matrix_title k) cells (matrix_titled k), length_ended_both (block (matrix_title k) cells) (codes "%ENDSNX" ∷ []))

  aprioris-long : length (ended from_aprioris_lem) ≡ 110 + (length (ended aprioris) + length (ended cells))
  aprioris-long =
      omega (arith, cells-long, block-long 16 (codes "SOLUTION/APRIORI") aprioris aprioris_titled, length_ended_both (block (codes "SOLUTION/APRIORI") aprioris) from_cells_lem)

  estimates-long : length (ended from_estimates_lem) ≡ 148 + (length (ended estimates) + (length (ended aprioris) + length (ended cells)))
  estimates-long =
      omega (arith, aprioris-long, block-long 17 (codes "SOLUTION/ESTIMATE") estimates estimates_titled, length_ended_both (block (codes "SOLUTION/ESTIMATE") estimates) from_aprioris_lem)

  spans-long : length (ended from_spans_lem) ≡ 182 + (length (ended spans) + (length (ended estimates) + (length (ended aprioris) + length (ended cells))))
  spans-long =
      omega (arith, estimates-long, block-long 15 (codes "SOLUTION/EPOCHS") spans spans_titled, length_ended_both (block (codes "SOLUTION/EPOCHS") spans) from_estimates_lem)

  sites_long : length (ended from_sites_lem) ≡ 200 + (length (ended sites) + (length (ended spans) + (length (ended estimates) + (length (ended aprioris) + length (ended cells)))))
  sites_long =
      omega (arith, spans-long, block-long 7 (codes "SITE/ID") sites sites_titled, length_ended_both (block (codes "SITE/ID") sites) from_spans_lem)

  pub assembled_long : length (ended (assembled k header sites spans estimates aprioris cells))
      ≡ 201 + (length header + (length (ended sites) + (length (ended spans) + (length (ended estimates) + (length (ended aprioris) + length (ended cells))))))
  assembled_long = omega (arith, sites_long, length_ended_more header from_sites_lem)
