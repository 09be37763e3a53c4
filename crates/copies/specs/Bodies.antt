-- The lines of a block as they are written: record after record, cell after cell.
use Rattle.std.specs.Prelude.{ℕ, ◌+◌, cond, List, [], ◌∷◌, ◌++◌, map, length, take, nat_lt}
use Rattle.copies.specs.Copy.{cell_line, numbered}
use Rattle.copies.specs.declared.lines.Body.{Body}
use Rattle.copies.specs.declared.lines.Body.TheVariants.{Sites, Spans, Parameters, Cells}
use Rattle.copies.specs.declared.lines.Place.{Place}
use Rattle.decimals.specs.declared.number.Number.{Number}
use Rattle.records.specs.Copies.{site_text, span_text}

-- a line for each, told its index, from i on
abbrev pub lines_from : {R : Type 0} → (ℕ → R → List ℕ) → ℕ → List R → List (List ℕ)
lines_from f i [] = []
lines_from f i (x ∷ xs) = f i x ∷ lines_from f (i + 1) xs

-- the next place in the row, or the first of the next row
abbrev pub next_place : Place → Place
next_place p = cond (nat_lt p.column p.row) (record { row = p.row; column = p.column + 1 }) (record { row = p.row + 1; column = 0 })

-- the lines of cells that are given one after another, the first at p
abbrev pub cells_from : Place → List Number → List (List ℕ)
cells_from p [] = []
cells_from p (v ∷ vs) = cell_line take p.row p.column v ++ cells_from (next_place p) vs

abbrev pub body_count : Body → ℕ
body_count (Sites xs) = length xs.now
body_count (Spans xs) = length xs.now
body_count (Parameters xs) = length xs.now
body_count (Cells xs) = length xs.now

abbrev pub body_lines : Body → List (List ℕ)
body_lines (Sites xs) = map (λ x. take 75 (site_text x)) xs.now
body_lines (Spans xs) = map (λ x. take 54 (span_text x)) xs.now
body_lines (Parameters xs) = numbered take 1 xs.now
body_lines (Cells xs) = cells_from (record { row = 0; column = 0 }) xs.now
