-- Matrix lines.
use Rattle.std.specs.Prelude.{ℕ, cond, List, [], ◌∷◌, Some, None, Ok, Option, Result}
use Rattle.refusals.specs.declared.Fault.{Fault}
use Rattle.codes.specs.Text.{check_blank}
use Rattle.decimals.specs.Number.{blank, read_number}
use Rattle.decimals.specs.Write.{number_text}
use Rattle.decimals.specs.declared.number.Number.{Number}
use Rattle.fields.specs.Angle.{columns}
use Rattle.fields.specs.Count.{read_count, index_text}
use Rattle.headings.specs.Copies.{joined, blanks}
use Rattle.headings.specs.Lines.{and_then}
use Rattle.headings.specs.declared.elements.MatrixLine.{MatrixLine}

-- row, blank, column
abbrev pub read_place : List ℕ → Result (ℕ × ℕ) Fault
read_place bs =
    and_then (read_count (columns 0 5 bs)) (λ row.
    and_then (check_blank (columns 5 6 bs)) (λ _.
    and_then (read_count (columns 6 11 bs)) (λ column.
    Ok (row, column))))

-- a number, or none where it is blank
abbrev pub read_element : List ℕ → Result (Option Number) Fault
read_element bs = cond (blank bs) (Ok None) (and_then (read_number bs) (λ value. Ok (Some value)))

-- three elements, each after a blank column, and blanks to the end; the first is never blank
abbrev pub read_elements : List ℕ → Result (Number × Option Number × Option Number) Fault
read_elements bs =
    and_then (check_blank (columns 0 1 bs)) (λ _.
    and_then (read_number (columns 1 22 bs)) (λ first.
    and_then (check_blank (columns 22 23 bs)) (λ _.
    and_then (read_element (columns 23 44 bs)) (λ second.
    and_then (check_blank (columns 44 45 bs)) (λ _.
    and_then (read_element (columns 45 66 bs)) (λ third.
    and_then (check_blank (columns 66 68 bs)) (λ _.
    Ok (first, second, third))))))))

abbrev pub read_matrix_line : List ℕ → Result MatrixLine Fault
read_matrix_line line =
    and_then (read_place (columns 1 12 line)) (λ place.
    and_then (read_elements (columns 12 80 line)) (λ elements.
    Ok (record { row = place.0; column = place.1; first = elements.0; second = elements.1; third = elements.2 })))

abbrev pub place_parts : ℕ → ℕ → List (List ℕ)
place_parts row column = index_text row ∷ blanks 1 ∷ index_text column ∷ []

abbrev pub place_text : ℕ → ℕ → List ℕ
place_text row column = joined (place_parts row column)

-- one element
abbrev pub single_parts : Number → List (List ℕ)
single_parts value = blanks 1 ∷ number_text value ∷ blanks 46 ∷ []

abbrev pub single_text : Number → List ℕ
single_text value = joined (single_parts value)

-- a line of one cell
abbrev pub matrix_parts : ℕ → ℕ → Number → List (List ℕ)
matrix_parts row column value = blanks 1 ∷ place_text row column ∷ single_text value ∷ []

abbrev pub matrix_text : ℕ → ℕ → Number → List ℕ
matrix_text row column value = joined (matrix_parts row column value)
