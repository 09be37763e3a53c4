-- The orders and blanks of the worksheet's records.
use Rattle.std.specs.Prelude.{Bool, ◌==◌}
use Rattle.std.specs.declared.cmp.Ordering.{Ordering}
use Rattle.std.specs.Ordering.{ordering_then, nat_cmp}
use Rattle.storagedemo.specs.declared.records.Code.{Code}
use Rattle.storagedemo.specs.declared.records.Reading.{Reading}
use Rattle.storagedemo.specs.declared.records.Visit.{Visit}
use Rattle.storagedemo.specs.declared.records.Amount.{Amount}

abbrev pub code_order : Code → Code → Ordering
code_order x y = ordering_then (nat_cmp x.letter y.letter) (nat_cmp x.digit y.digit)

abbrev pub reading_order : Reading → Reading → Ordering
reading_order x y = code_order x.code y.code

abbrev pub visit_order : Visit → Visit → Ordering
visit_order x y = ordering_then (code_order x.code y.code) (ordering_then (nat_cmp x.hour y.hour) (nat_cmp x.minute y.minute))

-- a blank code is two points
abbrev pub bare_reading : Reading
bare_reading = record { code = record { letter = 46; digit = 46 }; number = 0 }

abbrev pub bare_visit : Visit
bare_visit = record { code = record { letter = 46; digit = 46 }; hour = 0; minute = 0 }

abbrev pub zero_amount : Amount
zero_amount = record { value = 0 }

abbrev pub is_zero : Amount → Bool
is_zero v = v.value == 0
