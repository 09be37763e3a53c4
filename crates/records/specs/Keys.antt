-- What sites, spans and parameters are known by, in the order of their tables.
use Rattle.std.specs.Prelude.{ℕ, List, replicate, Ok, Result}
use Rattle.std.specs.declared.cmp.Ordering.{Ordering}
use Rattle.std.specs.Ordering.{ordering_then}
use Rattle.refusals.specs.declared.Fault.{Fault}
use Rattle.codes.specs.Order.{lex}
use Rattle.codes.specs.Text.{read_text, check_blank}
use Rattle.fields.specs.Angle.{columns}
use Rattle.headings.specs.Lines.{and_then}
use Rattle.records.specs.declared.keys.SiteKey.{SiteKey}
use Rattle.records.specs.declared.keys.SolutionKey.{SolutionKey}

abbrev pub site_key_order : SiteKey → SiteKey → Ordering
site_key_order a b = ordering_then (lex a.code b.code) (lex a.point b.point)

abbrev pub solution_key_order : SolutionKey → SolutionKey → Ordering
solution_key_order a b = ordering_then (site_key_order a.site b.site) (lex a.solution b.solution)

abbrev pub blank_site_key : SiteKey
blank_site_key = record { code = replicate 4 32; point = replicate 2 32 }

abbrev pub blank_solution_key : SolutionKey
blank_solution_key = record { site = blank_site_key; solution = replicate 4 32 }

-- columns that may be anything
abbrev pub not_looked_at : List ℕ → Result (Unit {0}) Fault
not_looked_at bs = Ok tt

-- site code, a column between, point code
abbrev pub site_key_by : (List ℕ → Result (Unit {0}) Fault) → List ℕ → Result SiteKey Fault
site_key_by between bs =
    and_then (read_text 4 (columns 0 4 bs)) (λ code.
    and_then (between (columns 4 5 bs)) (λ _.
    and_then (read_text 2 (columns 5 7 bs)) (λ point.
    Ok (record { code = code; point = point }))))

-- a site's columns, a column between, solution
abbrev pub solution_key_by : (List ℕ → Result (Unit {0}) Fault) → List ℕ → Result SolutionKey Fault
solution_key_by between bs =
    and_then (site_key_by between (columns 0 7 bs)) (λ site.
    and_then (between (columns 7 8 bs)) (λ _.
    and_then (read_text 4 (columns 8 12 bs)) (λ solution.
    Ok (record { site = site; solution = solution }))))

-- with blanks between
abbrev pub read_site_key : List ℕ → Result SiteKey Fault
read_site_key bs = site_key_by check_blank bs

abbrev pub read_solution_key : List ℕ → Result SolutionKey Fault
read_solution_key bs = solution_key_by check_blank bs

-- the same columns with those between the codes not looked at
abbrev pub pick_site_key : List ℕ → Result SiteKey Fault
pick_site_key bs = site_key_by not_looked_at bs

abbrev pub pick_solution_key : List ℕ → Result SolutionKey Fault
pick_solution_key bs = solution_key_by not_looked_at bs
