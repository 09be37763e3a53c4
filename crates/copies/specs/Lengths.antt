-- How long a fair copy is, by what it holds.
use Rattle.std.specs.Prelude.{ℕ, suc, ◌+◌, ◌*◌, cond, List, [], ◌∷◌, length}
use Rattle.copies.specs.Copy.{contents_of}
use Rattle.decimals.specs.declared.number.Number.{Number}
use Rattle.model.specs.Solutions.{Solution}
use Rattle.triangle.specs.Triangle.{is_zero_number}

-- how many of the cells are not zero
abbrev pub nonzero : List Number → ℕ
nonzero [] = 0
nonzero (v ∷ vs) = cond (is_zero_number v) (nonzero vs) (suc (nonzero vs))

-- a header of 67 bytes and two for each letter; a line of 75 bytes for a site, 54 for a span, 80 for a parameter and 34 for a cell; six
-- lines of titles, as many of ends, and the footer; each with byte 10 after it
abbrev pub length_by : ℕ → ℕ → ℕ → ℕ → ℕ → ℕ
length_by letters sites spans parameters cells = 268 + (2 * letters + (76 * sites + (55 * spans + (81 * parameters + 35 * cells))))

abbrev pub copy_length : Solution → ℕ
copy_length s = length_by (length (contents_of s.estimates)) (length s.sites) (length s.spans) (length s.estimates + length s.aprioris) (nonzero s.cells)
