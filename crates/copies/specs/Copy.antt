-- The fair copy of a solution, its one canonical form: lines in a fixed order, records in key order with their indices, one nonzero
-- cell a line.
use Rattle.std.specs.Prelude.{ℕ, zero, suc, ◌+◌, ◌-◌, Bool, false, cond, List, [], ◌∷◌, ◌++◌, map, length, take, replicate, Some, None, codes, Option, ◌==◌}
use Rattle.codes.specs.Codes.{matrix_kind_text}
use Rattle.codes.specs.ParameterTypes.{type_named}
use Rattle.codes.specs.Text.{filled}
use Rattle.codes.specs.declared.letters.Contents.{Contents}
use Rattle.codes.specs.declared.letters.Contents.TheVariants.{Stations, EarthOrientation, Troposphere, CelestialFrame, Antennas}
use Rattle.codes.specs.declared.letters.MatrixKind.{MatrixKind}
use Rattle.codes.specs.declared.types.ParameterType.{ParameterType}
use Rattle.codes.specs.Codes.{contents_letter}
use Rattle.decimals.specs.declared.number.Number.{Number}
use Rattle.model.specs.Needs.{any_of}
use Rattle.model.specs.Solutions.{Solution, cell_of}
use Rattle.headings.specs.Copies.{header_text}
use Rattle.headings.specs.Elements.{matrix_text}
use Rattle.headings.specs.declared.headers.Head.{Head}
use Rattle.records.specs.Copies.{parameter_text, site_text, span_text}
use Rattle.records.specs.declared.parameters.Parameter.{Parameter}
use Rattle.triangle.specs.Triangle.{is_zero_number}

-- ---- lines

-- without the blanks at its end
abbrev pub shorn : List ℕ → List ℕ
shorn bs = take (filled bs) bs

-- each line followed by byte 10
abbrev pub ended : List (List ℕ) → List ℕ
ended [] = []
ended (l ∷ ls) = l ++ (10 ∷ ended ls)

-- a block: its title, its data lines, its end
abbrev pub block : List ℕ → List (List ℕ) → List (List ℕ)
block title ls = (43 ∷ title) ∷ (ls ++ ((45 ∷ title) ∷ []))

-- ---- the letters of the header

abbrev pub contents_in : Option ParameterType → Contents → Bool
contents_in None c = false
contents_in (Some t) c = contents_letter t.contents == contents_letter c

-- the estimate is of these contents
unfoldable pub is_of : Contents → Parameter → Bool
is_of c p = contents_in (type_named p.key.name) c

-- those of the list that some estimate is of
abbrev pub present : List Parameter → List Contents → List Contents
present es [] = []
present es (c ∷ cs) = cond (any_of (is_of c) es) (c ∷ present es cs) (present es cs)

-- the letters of the estimates, in the order S E T C A
abbrev pub contents_of : List Parameter → List Contents
contents_of es = present es (Stations ∷ EarthOrientation ∷ Troposphere ∷ CelestialFrame ∷ Antennas ∷ [])

-- from the first of the header's six places on
abbrev pub six_places : List Contents → List (Option Contents)
six_places cs = map Some cs ++ replicate (6 - length cs) None

-- ---- the lines of records and cells, each cut from its 80 columns by `cut`, which is told how many of them are filled

-- with indices from i on
abbrev pub numbered : (ℕ → List ℕ → List ℕ) → ℕ → List Parameter → List (List ℕ)
numbered cut i [] = []
numbered cut i (p ∷ ps) = cut 80 (parameter_text i p) ∷ numbered cut (i + 1) ps

-- the line of a cell, none where it is zero; i and j count from 0, the line's row and column from 1
abbrev pub cell_line : (ℕ → List ℕ → List ℕ) → ℕ → ℕ → Number → List (List ℕ)
cell_line cut i j v = cond (is_zero_number v) [] (cut 34 (matrix_text (i + 1) (j + 1) v) ∷ [])

-- the cells of row i in the columns below j
abbrev pub row_lines : (ℕ → List ℕ → List ℕ) → (ℕ → ℕ → Number) → ℕ → ℕ → List (List ℕ)
row_lines cut f i zero = []
row_lines cut f i (suc j) = row_lines cut f i j ++ cell_line cut i j (f i j)

-- the cells of the rows below n, by row, then by column up to the row
abbrev pub matrix_lines : (ℕ → List ℕ → List ℕ) → (ℕ → ℕ → Number) → ℕ → List (List ℕ)
matrix_lines cut f zero = []
matrix_lines cut f (suc n) = matrix_lines cut f n ++ row_lines cut f n (suc n)

abbrev pub matrix_title : MatrixKind → List ℕ
matrix_title kind = codes "SOLUTION/MATRIX_ESTIMATE L " ++ matrix_kind_text kind

abbrev pub header_of : (ℕ → List ℕ → List ℕ) → Head → List Parameter → List ℕ
header_of cut h es = cut (67 + (length (contents_of es) + length (contents_of es))) (header_text h.header (length es) (six_places (contents_of es)))

-- all lines, from the header to the footer
abbrev pub copy_lines : (ℕ → List ℕ → List ℕ) → Head → Solution → List (List ℕ)
copy_lines cut h s =
    header_of cut h s.estimates
    ∷ (block (codes "SITE/ID") (map (λ x. cut 75 (site_text x)) s.sites)
    ++ (block (codes "SOLUTION/EPOCHS") (map (λ x. cut 54 (span_text x)) s.spans)
    ++ (block (codes "SOLUTION/ESTIMATE") (numbered cut 1 s.estimates)
    ++ (block (codes "SOLUTION/APRIORI") (numbered cut 1 s.aprioris)
    ++ (block (matrix_title h.kind) (matrix_lines cut (cell_of s) (length s.estimates))
    ++ (codes "%ENDSNX" ∷ []))))))

-- ---- the copy

-- no line of a fair copy has blanks at its end
abbrev pub fair_lines : Head → Solution → List (List ℕ)
fair_lines = copy_lines (λ w columns. shorn columns)

unfoldable pub fair_copy : Head → Solution → List ℕ
fair_copy h s = ended (fair_lines h s)
