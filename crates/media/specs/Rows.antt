-- A row of bytes with a fill count.
use Rattle.std.specs.Prelude.{ℕ, min, List, length, take}

-- a row has room for as many bytes as it is long, at most 100,000,000
abbrev pub row_room : List ℕ → ℕ
row_room bs = min (length bs) 100000000

-- the first bytes, as many as the fill count says and as the row has room for
abbrev pub row_content : List ℕ → ℕ → List ℕ
row_content bs fill = take (min fill (row_room bs)) bs
