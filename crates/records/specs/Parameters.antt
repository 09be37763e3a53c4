-- Parameters and their lines.
use Rattle.std.specs.Prelude.{ℕ, List, replicate, Some, None, Ok, Err, Option, Result}
use Rattle.std.specs.declared.cmp.Ordering.{Ordering}
use Rattle.std.specs.Ordering.{ordering_then}
use Rattle.refusals.specs.declared.Fault.{Fault}
use Rattle.refusals.specs.declared.Fault.TheVariants.{WrongType}
use Rattle.codes.specs.Codes.{read_constraint}
use Rattle.codes.specs.Order.{lex}
use Rattle.codes.specs.ParameterTypes.{type_named, check_type}
use Rattle.codes.specs.Text.{read_text, check_blank}
use Rattle.codes.specs.declared.letters.Constraint.{Constraint}
use Rattle.codes.specs.declared.letters.Constraint.TheVariants.{Fixed}
use Rattle.codes.specs.declared.types.ParameterType.{ParameterType}
use Rattle.decimals.specs.Number.{read_number, read_deviation, zero_number}
use Rattle.decimals.specs.Write.{zero_deviation}
use Rattle.decimals.specs.declared.number.Deviation.{Deviation}
use Rattle.decimals.specs.declared.number.Number.{Number}
use Rattle.fields.specs.Angle.{columns}
use Rattle.fields.specs.Count.{read_count}
use Rattle.fields.specs.Epoch.{read_epoch, epoch_order}
use Rattle.fields.specs.declared.epochs.Epoch.TheVariants.{Open}
use Rattle.headings.specs.Lines.{and_then}
use Rattle.records.specs.Keys.{solution_key_order, blank_solution_key, not_looked_at, solution_key_by}
use Rattle.records.specs.declared.parameters.ParameterKey.{ParameterKey}
use Rattle.records.specs.declared.parameters.Parameter.{Parameter}

abbrev pub parameter_key_order : ParameterKey → ParameterKey → Ordering
parameter_key_order a b = ordering_then (solution_key_order a.at b.at) (ordering_then (lex a.name b.name) (epoch_order a.epoch b.epoch))

abbrev pub parameter_order : Parameter → Parameter → Ordering
parameter_order a b = parameter_key_order a.key b.key

-- numbers zero
abbrev pub parameter_with : ParameterKey → Parameter
parameter_with key = record { key = key; constraint = Fixed; value = zero_number; deviation = zero_deviation }

abbrev pub blank_parameter : Parameter
blank_parameter = parameter_with (record { at = blank_solution_key; name = replicate 6 32; epoch = Open })

-- type, a solution's columns, epoch, each after a column between
abbrev pub parameter_key_by : (List ℕ → Result (Unit {0}) Fault) → List ℕ → Result ParameterKey Fault
parameter_key_by between bs =
    and_then (between (columns 0 1 bs)) (λ _.
    and_then (read_text 6 (columns 1 7 bs)) (λ name.
    and_then (between (columns 7 8 bs)) (λ _.
    and_then (solution_key_by between (columns 8 20 bs)) (λ at.
    and_then (between (columns 20 21 bs)) (λ _.
    and_then (read_epoch (columns 21 33 bs)) (λ epoch.
    Ok (record { at = at; name = name; epoch = epoch })))))))

-- with blanks between
abbrev pub read_parameter_key : List ℕ → Result ParameterKey Fault
read_parameter_key bs = parameter_key_by check_blank bs

-- constraint, blank, value, blank, deviation
abbrev pub read_measure : List ℕ → Result (Constraint × Number × Deviation) Fault
read_measure bs =
    and_then (read_constraint (columns 0 1 bs)) (λ constraint.
    and_then (check_blank (columns 1 2 bs)) (λ _.
    and_then (read_number (columns 2 23 bs)) (λ value.
    and_then (check_blank (columns 23 24 bs)) (λ _.
    and_then (read_deviation (columns 24 35 bs)) (λ deviation.
    Ok (constraint, value, deviation))))))

-- all but the index; the type and its unit are held to the table last
abbrev pub read_parameter : List ℕ → Result Parameter Fault
read_parameter line =
    and_then (read_parameter_key (columns 6 39 line)) (λ key.
    and_then (check_blank (columns 39 40 line)) (λ _.
    and_then (read_text 4 (columns 40 44 line)) (λ unit.
    and_then (check_blank (columns 44 45 line)) (λ _.
    and_then (read_measure (columns 45 80 line)) (λ measure.
    and_then (check_type key.name unit) (λ _.
    Ok (record { key = key; constraint = measure.0; value = measure.1; deviation = measure.2 })))))))

abbrev pub read_index : List ℕ → Result ℕ Fault
read_index line = read_count (columns 1 6 line)

-- with the index, which is the first field
abbrev pub read_indexed : List ℕ → Result (ℕ × Parameter) Fault
read_indexed line =
    and_then (read_index line) (λ index.
    and_then (read_parameter line) (λ parameter.
    Ok (index, parameter)))

abbrev pub found_type : Option ParameterType → Result ParameterType Fault
found_type (Some t) = Ok t
found_type None = Err WrongType

abbrev pub type_of : List ℕ → Result ParameterType Fault
type_of name = found_type (type_named name)

-- the columns after the index with those between the codes not looked at
abbrev pub pick_parameter_key : List ℕ → Result ParameterKey Fault
pick_parameter_key bs = parameter_key_by not_looked_at bs

-- a parameter known by the key that a line names, of a type of the table, and blank otherwise
abbrev pub parameter_named : List ℕ → Result Parameter Fault
parameter_named line =
    and_then (pick_parameter_key (columns 6 39 line)) (λ key.
    and_then (type_of key.name) (λ _.
    Ok (parameter_with key)))
