-- The lines of a fair copy as they are written, and what is left of them after each block.
use Rattle.std.proofs.Common.{◌≡◌, ℕ, List, [], ◌∷◌, ◌++◌, map, length, take, codes, Result, ap}
use Rattle.copies.proofs.Ends.{appends_as}
use Rattle.copies.proofs.Rows.{walked}
use Rattle.copies.specs.Appends.{Appends}
use Rattle.copies.specs.Bodies.{cells_from}
use Rattle.copies.specs.Copy.{block, copy_lines, header_of, matrix_title, numbered}
use Rattle.media.specs.declared.Full.{Full}
use Rattle.model.specs.Solutions.{Solution}
use Rattle.headings.specs.declared.headers.Head.{Head}
use Rattle.records.specs.Copies.{site_text, span_text}
use Rattle.triangle.specs.Triangle.{tri}

abbrev pub footer : List (List ℕ)
footer = codes "%ENDSNX" ∷ []

-- with these lines of cells
abbrev pub from_cells : Head → Solution → List (List ℕ) → List (List ℕ)
from_cells h s ms = block (matrix_title h.kind) ms ++ footer

abbrev pub from_aprioris : Head → Solution → List (List ℕ) → List (List ℕ)
from_aprioris h s ms = block (codes "SOLUTION/APRIORI") (numbered take 1 s.aprioris) ++ from_cells h s ms

abbrev pub from_estimates : Head → Solution → List (List ℕ) → List (List ℕ)
from_estimates h s ms = block (codes "SOLUTION/ESTIMATE") (numbered take 1 s.estimates) ++ from_aprioris h s ms

abbrev pub from_spans : Head → Solution → List (List ℕ) → List (List ℕ)
from_spans h s ms = block (codes "SOLUTION/EPOCHS") (map (λ x. take 54 (span_text x)) s.spans) ++ from_estimates h s ms

abbrev pub from_sites : Head → Solution → List (List ℕ) → List (List ℕ)
from_sites h s ms = block (codes "SITE/ID") (map (λ x. take 75 (site_text x)) s.sites) ++ from_spans h s ms

abbrev pub from_header : Head → Solution → List (List ℕ) → List (List ℕ)
from_header h s ms = (header_of take h s.estimates ∷ []) ++ from_sites h s ms

abbrev pub walked_cells : Solution → List (List ℕ)
walked_cells s = cells_from (record { row = 0; column = 0 }) s.cells

-- the walk over the cells gives the rows of the matrix
pub all_lines : (h : Head) (s : Solution) {had : List ℕ} {room : ℕ} {a : Result (Unit {0}) Full} {has : List ℕ} {left : ℕ}
    → Appends had room a has left (from_header h s (walked_cells s)) → length s.cells ≡ tri (length s.estimates) → Appends had room a has left (copy_lines take h s)
all_lines h s p whole = appends_as (ap (from_header h s) (walked s.cells (length s.estimates) whole)) p
