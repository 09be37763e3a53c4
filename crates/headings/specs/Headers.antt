-- Header lines.
use Rattle.std.specs.Prelude.{ℕ, List, Ok, Result}
use Rattle.refusals.specs.declared.Fault.{Fault}
use Rattle.codes.specs.Codes.{read_technique, read_constraint, read_contents}
use Rattle.codes.specs.Text.{read_text, check_blank}
use Rattle.fields.specs.Angle.{columns}
use Rattle.fields.specs.Count.{read_count}
use Rattle.fields.specs.Epoch.{read_moment}
use Rattle.fields.specs.declared.epochs.Moment.{Moment}
use Rattle.headings.specs.Lines.{and_then}
use Rattle.headings.specs.declared.headers.Header.{Header}

-- blank, agency of the file, blank, creation, blank, agency of the data
abbrev pub read_agencies : List ℕ → Result (List ℕ × Moment × List ℕ) Fault
read_agencies bs =
    and_then (check_blank (columns 0 1 bs)) (λ _.
    and_then (read_text 3 (columns 1 4 bs)) (λ file.
    and_then (check_blank (columns 4 5 bs)) (λ _.
    and_then (read_moment (columns 5 17 bs)) (λ created.
    and_then (check_blank (columns 17 18 bs)) (λ _.
    and_then (read_text 3 (columns 18 21 bs)) (λ source.
    Ok (file, created, source)))))))

-- blank, start, blank, end
abbrev pub read_period : List ℕ → Result (Moment × Moment) Fault
read_period bs =
    and_then (check_blank (columns 0 1 bs)) (λ _.
    and_then (read_moment (columns 1 13 bs)) (λ start.
    and_then (check_blank (columns 13 14 bs)) (λ _.
    and_then (read_moment (columns 14 26 bs)) (λ end.
    Ok (start, end)))))

-- blank, and a letter or none
abbrev pub check_letter : List ℕ → Result (Unit {0}) Fault
check_letter bs =
    and_then (check_blank (columns 0 1 bs)) (λ _.
    and_then (read_contents (columns 1 2 bs)) (λ _.
    Ok tt))

-- six of them, blank
abbrev pub check_letters : List ℕ → Result (Unit {0}) Fault
check_letters bs =
    and_then (check_letter (columns 0 2 bs)) (λ _.
    and_then (check_letter (columns 2 4 bs)) (λ _.
    and_then (check_letter (columns 4 6 bs)) (λ _.
    and_then (check_letter (columns 6 8 bs)) (λ _.
    and_then (check_letter (columns 8 10 bs)) (λ _.
    and_then (check_letter (columns 10 12 bs)) (λ _.
    check_blank (columns 12 13 bs)))))))

-- with what the count's columns say; columns count from 0
abbrev pub read_header_by : {C : Type 0} → Result C Fault → List ℕ → Result (Header × C) Fault
read_header_by counted line =
    and_then (read_agencies (columns 10 31 line)) (λ agencies.
    and_then (read_period (columns 31 57 line)) (λ period.
    and_then (check_blank (columns 57 58 line)) (λ _.
    and_then (read_technique (columns 58 59 line)) (λ technique.
    and_then (check_blank (columns 59 60 line)) (λ _.
    and_then counted (λ count.
    and_then (check_blank (columns 65 66 line)) (λ _.
    and_then (read_constraint (columns 66 67 line)) (λ constraint.
    and_then (check_letters (columns 67 80 line)) (λ _.
    Ok (record { file_agency = agencies.0; created = agencies.1; data_agency = agencies.2; start = period.0; end = period.1; technique = technique; constraint = constraint }, count))))))))))

abbrev pub read_header : List ℕ → Result (Header × ℕ) Fault
read_header line = read_header_by (read_count (columns 60 65 line)) line

-- whatever stands in the columns of the count
abbrev pub read_edited_header : List ℕ → Result Header Fault
read_edited_header line = and_then (read_header_by (Ok (tt {0})) line) (λ h. Ok h.0)
