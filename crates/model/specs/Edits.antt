-- What each edit makes of a solution, or the fault for which it is refused: the rules, by solutions and the bytes handed in.
use Rattle.std.specs.Result.{result_unwrap_or}
use Rattle.std.specs.Prelude.{ℕ, cond, not, ◌&&◌, ◌||◌, List, length, Some, Ok, Err, Option, Result, nat_lt}
use Rattle.std.specs.declared.cmp.Ordering.{Ordering}
use Rattle.codes.specs.declared.letters.MatrixKind.{MatrixKind}
use Rattle.decimals.specs.declared.number.Number.{Number}
use Rattle.model.specs.Cells.{arranged, look, same_pair}
use Rattle.model.specs.Handed.{cell_number, data_line, demand, header_line}
use Rattle.model.specs.Needs.{has_site, served, site_needed, span_needed}
use Rattle.model.specs.Solutions.{Solution}
use Rattle.model.specs.declared.counts.Counts.{Counts}
use Rattle.model.specs.declared.counts.Sort.{Sort}
use Rattle.model.specs.declared.counts.Sort.TheVariants.{Site as SiteSort, Span as SpanSort, Estimate as EstimateSort, Apriori as AprioriSort}
use Rattle.headings.specs.Headers.{read_edited_header}
use Rattle.headings.specs.Lines.{and_then}
use Rattle.headings.specs.declared.headers.Head.{Head}
use Rattle.records.specs.Parameters.{parameter_named, parameter_order, read_parameter}
use Rattle.records.specs.Sites.{read_site, site_named, site_order}
use Rattle.records.specs.Spans.{read_span, span_named, span_order}
use Rattle.records.specs.declared.parameters.Parameter.{Parameter}
use Rattle.records.specs.declared.sites.Site.{Site}
use Rattle.records.specs.declared.spans.Span.{Span}
use Rattle.refusals.specs.declared.Fault.{Fault}
use Rattle.refusals.specs.declared.Fault.TheVariants.{NeedMissing, RecordAbsent, StillNeeded, TableFull}
use Rattle.refusals.specs.declared.Refusal.{Refusal}
use Rattle.tables.specs.Lists.{holds, put, without}
use Rattle.tables.specs.Rows.{plain}

-- ---- a solution with one of its parts changed

abbrev pub with_head : Solution → Option Head → Solution
with_head s h = record { head = h; sites = s.sites; spans = s.spans; estimates = s.estimates; aprioris = s.aprioris; cells = s.cells }

abbrev pub with_sites : Solution → List Site → Solution
with_sites s xs = record { head = s.head; sites = xs; spans = s.spans; estimates = s.estimates; aprioris = s.aprioris; cells = s.cells }

abbrev pub with_spans : Solution → List Span → Solution
with_spans s xs = record { head = s.head; sites = s.sites; spans = xs; estimates = s.estimates; aprioris = s.aprioris; cells = s.cells }

abbrev pub with_aprioris : Solution → List Parameter → Solution
with_aprioris s xs = record { head = s.head; sites = s.sites; spans = s.spans; estimates = s.estimates; aprioris = xs; cells = s.cells }

-- other estimates: those that stay keep their cells, and a new one has zeros
abbrev pub with_estimates : Solution → List Parameter → Solution
with_estimates s xs = record { head = s.head; sites = s.sites; spans = s.spans; estimates = xs; aprioris = s.aprioris; cells = arranged xs (look s) }

-- v in the cell of p and q
abbrev pub with_cell : Solution → Parameter → Parameter → Number → Solution
with_cell s p q v = record {
  head = s.head;
  sites = s.sites;
  spans = s.spans;
  estimates = s.estimates;
  aprioris = s.aprioris;
  cells = arranged s.estimates (λ k l. cond (same_pair p q k l) v (look s k l));
}

-- ---- the rules of each edit

-- the record takes the place of the one that has its key, or a free place of n
abbrev pub room : {R : Type 0} → (R → R → Ordering) → R → ℕ → List R → Result (Unit {0}) Fault
room cmp r n xs = demand TableFull (holds cmp r xs || nat_lt (length xs) n)

abbrev pub put_site : Counts → Solution → Site → Result Solution Fault
put_site P s r =
    and_then (room site_order r P.sites s.sites) (λ _.
    Ok (with_sites s (put site_order r s.sites)))

abbrev pub put_span : Counts → Solution → Span → Result Solution Fault
put_span P s r =
    and_then (demand NeedMissing (has_site s r.key.at.site)) (λ _.
    and_then (room span_order r P.spans s.spans) (λ _.
    Ok (with_spans s (put span_order r s.spans))))

abbrev pub put_estimate : Counts → Solution → Parameter → Result Solution Fault
put_estimate P s r =
    and_then (demand NeedMissing (served s r)) (λ _.
    and_then (room parameter_order r P.estimates s.estimates) (λ _.
    Ok (with_estimates s (put parameter_order r s.estimates))))

abbrev pub put_apriori : Counts → Solution → Parameter → Result Solution Fault
put_apriori P s r =
    and_then (demand NeedMissing (served s r)) (λ _.
    and_then (room parameter_order r P.aprioris s.aprioris) (λ _.
    Ok (with_aprioris s (put parameter_order r s.aprioris))))

abbrev pub drop_site : Solution → Site → Result Solution Fault
drop_site s r =
    and_then (demand RecordAbsent (holds site_order r s.sites)) (λ _.
    and_then (demand StillNeeded (not (site_needed s r.key))) (λ _.
    Ok (with_sites s (without site_order r s.sites))))

abbrev pub drop_span : Solution → Span → Result Solution Fault
drop_span s r =
    and_then (demand RecordAbsent (holds span_order r s.spans)) (λ _.
    and_then (demand StillNeeded (not (span_needed s r))) (λ _.
    Ok (with_spans s (without span_order r s.spans))))

abbrev pub drop_estimate : Solution → Parameter → Result Solution Fault
drop_estimate s r =
    and_then (demand RecordAbsent (holds parameter_order r s.estimates)) (λ _.
    Ok (with_estimates s (without parameter_order r s.estimates)))

abbrev pub drop_apriori : Solution → Parameter → Result Solution Fault
drop_apriori s r =
    and_then (demand RecordAbsent (holds parameter_order r s.aprioris)) (λ _.
    Ok (with_aprioris s (without parameter_order r s.aprioris)))

abbrev pub set_cell : Solution → Parameter → Parameter → Number → Result Solution Fault
set_cell s p q v =
    and_then (demand RecordAbsent (holds parameter_order p s.estimates && holds parameter_order q s.estimates)) (λ _.
    Ok (with_cell s p q v))

-- ---- the calls, by what they are handed

-- a record's 80 columns, put
abbrev pub put_line : Sort → Counts → Solution → List ℕ → Result Solution Fault
put_line SiteSort P s line = and_then (read_site line) (put_site P s)
put_line SpanSort P s line = and_then (read_span line) (put_span P s)
put_line EstimateSort P s line = and_then (read_parameter line) (put_estimate P s)
put_line AprioriSort P s line = and_then (read_parameter line) (put_apriori P s)

-- the record that 80 columns name, dropped
abbrev pub drop_line : Sort → Solution → List ℕ → Result Solution Fault
drop_line SiteSort s line = and_then (site_named line) (drop_site s)
drop_line SpanSort s line = and_then (span_named line) (drop_span s)
drop_line EstimateSort s line = and_then (parameter_named line) (drop_estimate s)
drop_line AprioriSort s line = and_then (parameter_named line) (drop_apriori s)

-- the estimate that a line names
abbrev pub estimate_named : List ℕ → Result Parameter Fault
estimate_named bs = and_then (data_line bs) parameter_named

-- the head of a header line and a matrix kind
abbrev pub head_named : List ℕ → MatrixKind → Result Head Fault
head_named bs kind =
    and_then (header_line bs) (λ line.
    and_then (read_edited_header line) (λ header.
    Ok (record { header = header; kind = kind })))

pub data Call : Type 0 where
  -- a header line and a matrix kind
  SetHead : List ℕ → MatrixKind → Call
  -- a data line of the sort's block
  Put : Sort → List ℕ → Call
  Drop : Sort → List ℕ → Call
  -- two data lines of estimates and a number's text
  SetCell : List ℕ → List ℕ → List ℕ → Call

-- the solution after the call, or the fault that it is refused for; P is how many places the tables have
abbrev pub outcome : Counts → Solution → Call → Result Solution Fault
outcome P s (SetHead bs kind) = and_then (head_named bs kind) (λ head. Ok (with_head s (Some head)))
outcome P s (Put sort bs) = and_then (data_line bs) (put_line sort P s)
outcome P s (Drop sort bs) = and_then (data_line bs) (drop_line sort s)
outcome P s (SetCell first second text) =
    and_then (estimate_named first) (λ p.
    and_then (estimate_named second) (λ q.
    and_then (cell_number text) (λ v.
    set_cell s p q v)))

-- a fault that stands in no line of a file
abbrev pub unplaced : {A : Type 0} → Result A Fault → Result A Refusal
unplaced (Ok x) = Ok x
unplaced (Err f) = Err (record { fault = f; line = 0 })

-- what the call is answered
abbrev pub reply : Counts → Solution → Call → Result (Unit {0}) Refusal
reply P s c = unplaced (plain (outcome P s c))

-- what is held then
abbrev pub after : Counts → Solution → Call → Solution
after P s c = result_unwrap_or (outcome P s c) s
