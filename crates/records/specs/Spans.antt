-- Spans and their lines.
use Rattle.std.specs.Prelude.{ℕ, List, Ok, Result}
use Rattle.std.specs.declared.cmp.Ordering.{Ordering}
use Rattle.std.specs.Ordering.{ordering_then, nat_cmp}
use Rattle.refusals.specs.declared.Fault.{Fault}
use Rattle.codes.specs.Codes.{read_technique, technique_letter}
use Rattle.codes.specs.declared.letters.Technique.TheVariants.{Combined}
use Rattle.codes.specs.Text.{check_blank}
use Rattle.fields.specs.Angle.{columns}
use Rattle.fields.specs.Epoch.{read_epoch}
use Rattle.fields.specs.declared.epochs.Epoch.{Epoch}
use Rattle.fields.specs.declared.epochs.Epoch.TheVariants.{Open}
use Rattle.headings.specs.Lines.{and_then}
use Rattle.records.specs.Keys.{solution_key_order, blank_solution_key, not_looked_at, solution_key_by}
use Rattle.records.specs.declared.spans.SpanKey.{SpanKey}
use Rattle.records.specs.declared.spans.Span.{Span}

-- techniques by their letters
abbrev pub span_key_order : SpanKey → SpanKey → Ordering
span_key_order a b = ordering_then (solution_key_order a.at b.at) (nat_cmp (technique_letter a.technique) (technique_letter b.technique))

abbrev pub span_order : Span → Span → Ordering
span_order a b = span_key_order a.key b.key

-- epochs open
abbrev pub span_with : SpanKey → Span
span_with key = record { key = key; start = Open; end = Open; mean = Open }

abbrev pub blank_span : Span
blank_span = span_with (record { at = blank_solution_key; technique = Combined })

-- a solution's columns, a column between, technique
abbrev pub span_key_by : (List ℕ → Result (Unit {0}) Fault) → List ℕ → Result SpanKey Fault
span_key_by between bs =
    and_then (solution_key_by between (columns 0 12 bs)) (λ at.
    and_then (between (columns 12 13 bs)) (λ _.
    and_then (read_technique (columns 13 14 bs)) (λ technique.
    Ok (record { at = at; technique = technique }))))

-- with blanks between
abbrev pub read_span_key : List ℕ → Result SpanKey Fault
read_span_key bs = span_key_by check_blank bs

-- start, end and mean, each after a blank column, and blanks to the end
abbrev pub read_epochs : List ℕ → Result (Epoch × Epoch × Epoch) Fault
read_epochs bs =
    and_then (check_blank (columns 0 1 bs)) (λ _.
    and_then (read_epoch (columns 1 13 bs)) (λ start.
    and_then (check_blank (columns 13 14 bs)) (λ _.
    and_then (read_epoch (columns 14 26 bs)) (λ end.
    and_then (check_blank (columns 26 27 bs)) (λ _.
    and_then (read_epoch (columns 27 39 bs)) (λ mean.
    and_then (check_blank (columns 39 65 bs)) (λ _.
    Ok (start, end, mean))))))))

abbrev pub read_span : List ℕ → Result Span Fault
read_span line =
    and_then (read_span_key (columns 1 15 line)) (λ key.
    and_then (read_epochs (columns 15 80 line)) (λ epochs.
    Ok (record { key = key; start = epochs.0; end = epochs.1; mean = epochs.2 })))

-- the same columns with those between the codes not looked at
abbrev pub pick_span_key : List ℕ → Result SpanKey Fault
pick_span_key bs = span_key_by not_looked_at bs

-- a span known by the key that a line names, and blank otherwise
abbrev pub span_named : List ℕ → Result Span Fault
span_named line = and_then (pick_span_key (columns 1 15 line)) (λ key. Ok (span_with key))
