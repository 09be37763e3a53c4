-- The cells of a solution by the keys of its estimates.
use Rattle.std.specs.Result.{result_unwrap_or}
use Rattle.std.specs.Prelude.{ℕ, Bool, cond, ◌&&◌, ◌||◌, List, length, slice_index_or}
use Rattle.codes.specs.Order.{is_equal}
use Rattle.decimals.specs.Number.{zero_number}
use Rattle.decimals.specs.declared.number.Number.{Number}
use Rattle.model.specs.Solutions.{Solution, cell_of}
use Rattle.records.specs.Parameters.{blank_parameter, parameter_order}
use Rattle.records.specs.declared.parameters.Parameter.{Parameter}
use Rattle.tables.specs.Lists.{holds, place}
use Rattle.triangle.specs.Triangle.{rows_of}

-- the rank of the estimate of p's key, from 0
abbrev pub rank_among : List Parameter → Parameter → ℕ
rank_among es p = result_unwrap_or (place parameter_order p es) 0

-- the cell of the estimates that have the keys of p and q; zero where one of them is absent
unfoldable pub look : Solution → Parameter → Parameter → Number
look s p q =
    cond (holds parameter_order p s.estimates && holds parameter_order q s.estimates)
    (cell_of s (rank_among s.estimates p) (rank_among s.estimates q))
    zero_number

-- the lower triangle over the estimates es in which the cell of p and q is f p q
unfoldable pub arranged : List Parameter → (Parameter → Parameter → Number) → List Number
arranged es f = rows_of (length es) (λ i j. f (slice_index_or es i blank_parameter) (slice_index_or es j blank_parameter))

abbrev pub same_key : Parameter → Parameter → Bool
same_key p q = is_equal (parameter_order p q)

-- k and l have the keys of p and q, in either order
abbrev pub same_pair : Parameter → Parameter → Parameter → Parameter → Bool
same_pair p q k l = (same_key k p && same_key l q) || (same_key k q && same_key l p)
