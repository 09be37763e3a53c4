-- What holds of matrix lines.
use Rattle.std.specs.Prelude.{◌≡◌, ℕ, ◌<◌, List, Some, None, Ok, Option}
use Rattle.decimals.specs.Write.{Canonical}
use Rattle.decimals.specs.declared.number.Number.{Number}
use Rattle.headings.specs.Elements.{read_matrix_line, matrix_text}
use Rattle.headings.specs.declared.elements.MatrixLine.{MatrixLine}
use Rattle.record_laws.specs.Valid.{Gives}

abbrev pub one_cell : ℕ → ℕ → Number → MatrixLine
one_cell row column value = record { row = row; column = column; first = value; second = None; third = None }

-- a cell that is written is read as it was
abbrev pub CellsComeBack : Type 0
CellsComeBack = (row column : ℕ) (value : Number) → row < 100000 → column < 100000 → Canonical 14 value → read_matrix_line (matrix_text row column value) ≡ Ok (one_cell row column value)

abbrev pub ValidElement : Option Number → Type 0
ValidElement None = Unit {0}
ValidElement (Some n) = Canonical 14 n

pub record ValidMatrixLine (m : MatrixLine) : Type 0 where
  pub row : m.row < 100000
  pub column : m.column < 100000
  pub first : Canonical 14 m.first
  pub second : ValidElement m.second
  pub third : ValidElement m.third

abbrev pub MatrixLinesAreValid : Type 0
MatrixLinesAreValid = (line : List ℕ) → Gives ValidMatrixLine (read_matrix_line line)
