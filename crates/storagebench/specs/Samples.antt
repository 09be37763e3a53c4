-- The records and cells that the storage is timed with.
use Rattle.std.specs.Prelude.{Bool, false, replicate, pos, ◌==◌}
use Rattle.std.specs.declared.cmp.Ordering.{Ordering}
use Rattle.storagebench.specs.declared.Row.{Row}
use Rattle.storagebench.specs.declared.Value.{Value}
use Rattle.std.specs.Ordering.{nat_cmp}

abbrev pub row_order : Row → Row → Ordering
row_order x y = nat_cmp x.code y.code

abbrev pub bare_row : Row
bare_row = record { code = 0; fields = replicate 7 0 }

abbrev pub zero_value : Value
zero_value = record { mantissa = 0; exponent = pos 0; negative = false }

abbrev pub is_zero : Value → Bool
is_zero v = v.mantissa == 0
