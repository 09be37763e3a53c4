-- What a step of a call does to a register and its tables, of any rows: the counterparts on tables of the rules on solutions.
use Rattle.std.specs.Result.{result_unwrap_or}
use Rattle.std.specs.Prelude.{ℕ, Bool, cond, not, ◌&&◌, ◌||◌, List, length, take, Ok, Err, Option, Result, slice_set}
use Rattle.decimals.specs.Number.{zero_number}
use Rattle.decimals.specs.declared.number.Number.{Number}
use Rattle.model.specs.Needs.{has_span, stationed}
use Rattle.model.specs.Solutions.{Solution}
use Rattle.model.specs.States.{State}
use Rattle.headings.specs.declared.headers.Head.{Head}
use Rattle.records.specs.Parameters.{blank_parameter, parameter_order}
use Rattle.records.specs.Sites.{blank_site, site_order, site_with}
use Rattle.records.specs.Spans.{blank_span, span_order}
use Rattle.records.specs.declared.keys.SiteKey.{SiteKey}
use Rattle.records.specs.declared.parameters.Parameter.{Parameter}
use Rattle.records.specs.declared.sites.Site.{Site}
use Rattle.records.specs.declared.spans.Span.{Span}
use Rattle.refusals.specs.declared.Fault.{Fault}
use Rattle.refusals.specs.declared.Fault.TheVariants.{RecordAbsent, TableFull, WrongCell}
use Rattle.tables.specs.Rows.{drop_answer, drop_rows, known, put_answer, put_rows, sought, used_rows}
use Rattle.triangle.specs.Triangle.{cell, closable, closed_in, openable, opened_in, rows_of, seen, spot, tri}

-- ---- a state with one of its parts changed

abbrev pub head_set : State → Option Head → State
head_set x h = record {
  places = x.places;
  used = x.used;
  head = h;
  sites = x.sites;
  spans = x.spans;
  estimates = x.estimates;
  aprioris = x.aprioris;
  cells = x.cells;
  row = x.row;
}

-- other rows, and how many of them are used
abbrev pub site_rows : State → List Site → ℕ → State
site_rows x rows n = record {
  places = x.places;
  used = record { sites = n; spans = x.used.spans; estimates = x.used.estimates; aprioris = x.used.aprioris };
  head = x.head;
  sites = rows;
  spans = x.spans;
  estimates = x.estimates;
  aprioris = x.aprioris;
  cells = x.cells;
  row = x.row;
}

abbrev pub span_rows : State → List Span → ℕ → State
span_rows x rows n = record {
  places = x.places;
  used = record { sites = x.used.sites; spans = n; estimates = x.used.estimates; aprioris = x.used.aprioris };
  head = x.head;
  sites = x.sites;
  spans = rows;
  estimates = x.estimates;
  aprioris = x.aprioris;
  cells = x.cells;
  row = x.row;
}

abbrev pub estimate_rows : State → List Parameter → ℕ → State
estimate_rows x rows n = record {
  places = x.places;
  used = record { sites = x.used.sites; spans = x.used.spans; estimates = n; aprioris = x.used.aprioris };
  head = x.head;
  sites = x.sites;
  spans = x.spans;
  estimates = rows;
  aprioris = x.aprioris;
  cells = x.cells;
  row = x.row;
}

abbrev pub apriori_rows : State → List Parameter → ℕ → State
apriori_rows x rows n = record {
  places = x.places;
  used = record { sites = x.used.sites; spans = x.used.spans; estimates = x.used.estimates; aprioris = n };
  head = x.head;
  sites = x.sites;
  spans = x.spans;
  estimates = x.estimates;
  aprioris = rows;
  cells = x.cells;
  row = x.row;
}

abbrev pub cell_rows : State → List Number → State
cell_rows x cells = record {
  places = x.places;
  used = x.used;
  head = x.head;
  sites = x.sites;
  spans = x.spans;
  estimates = x.estimates;
  aprioris = x.aprioris;
  cells = cells;
  row = x.row;
}

-- ---- what the used places show

-- the solution whose records stand in the used places
abbrev pub shown : State → Solution
shown x = record {
  head = x.head;
  sites = used_rows x.used.sites x.sites;
  spans = used_rows x.used.spans x.spans;
  estimates = used_rows x.used.estimates x.estimates;
  aprioris = used_rows x.used.aprioris x.aprioris;
  cells = take (tri x.used.estimates) x.cells;
}

-- a search by halving finds the site
abbrev pub site_known : State → SiteKey → Bool
site_known x k = known site_order (site_with k) x.used.sites x.sites

-- what the parameter needs is found
abbrev pub served_in : State → Parameter → Bool
served_in x p = not (stationed p) || (site_known x p.key.at.site && has_span (shown x) p.key.at)

-- where a search by halving finds the estimate, or would put it
abbrev pub estimate_place : Parameter → State → Result ℕ ℕ
estimate_place r x = sought parameter_order r (used_rows x.used.estimates x.estimates)

abbrev pub ranked_at : Result ℕ ℕ → Result ℕ Fault
ranked_at (Ok k) = Ok k
ranked_at (Err k) = Err RecordAbsent

abbrev pub estimate_rank : Parameter → State → Result ℕ Fault
estimate_rank r x = ranked_at (estimate_place r x)

-- ---- records put and dropped: the answer has how many places are used then

abbrev pub site_put_answer : Site → State → Result ℕ Fault
site_put_answer r x = put_answer site_order r x.used.sites x.sites

abbrev pub site_put : Site → State → State
site_put r x = site_rows x (put_rows site_order r x.used.sites x.sites) (result_unwrap_or (site_put_answer r x) x.used.sites)

abbrev pub site_drop_answer : Site → State → Result ℕ Fault
site_drop_answer r x = drop_answer site_order r x.used.sites x.sites

abbrev pub site_dropped : Site → State → State
site_dropped r x = site_rows x (drop_rows site_order blank_site r x.used.sites x.sites) (result_unwrap_or (site_drop_answer r x) x.used.sites)

abbrev pub span_put_answer : Span → State → Result ℕ Fault
span_put_answer r x = put_answer span_order r x.used.spans x.spans

abbrev pub span_put : Span → State → State
span_put r x = span_rows x (put_rows span_order r x.used.spans x.spans) (result_unwrap_or (span_put_answer r x) x.used.spans)

abbrev pub span_drop_answer : Span → State → Result ℕ Fault
span_drop_answer r x = drop_answer span_order r x.used.spans x.spans

abbrev pub span_dropped : Span → State → State
span_dropped r x = span_rows x (drop_rows span_order blank_span r x.used.spans x.spans) (result_unwrap_or (span_drop_answer r x) x.used.spans)

abbrev pub apriori_put_answer : Parameter → State → Result ℕ Fault
apriori_put_answer r x = put_answer parameter_order r x.used.aprioris x.aprioris

abbrev pub apriori_put : Parameter → State → State
apriori_put r x = apriori_rows x (put_rows parameter_order r x.used.aprioris x.aprioris) (result_unwrap_or (apriori_put_answer r x) x.used.aprioris)

abbrev pub apriori_drop_answer : Parameter → State → Result ℕ Fault
apriori_drop_answer r x = drop_answer parameter_order r x.used.aprioris x.aprioris

abbrev pub apriori_dropped : Parameter → State → State
apriori_dropped r x = apriori_rows x (drop_rows parameter_order blank_parameter r x.used.aprioris x.aprioris) (result_unwrap_or (apriori_drop_answer r x) x.used.aprioris)

-- the rows of the estimates; their cells are moved by steps of their own
abbrev pub estimate_put_answer : Parameter → State → Result ℕ Fault
estimate_put_answer r x = put_answer parameter_order r x.used.estimates x.estimates

abbrev pub estimate_put : Parameter → State → State
estimate_put r x = estimate_rows x (put_rows parameter_order r x.used.estimates x.estimates) (result_unwrap_or (estimate_put_answer r x) x.used.estimates)

abbrev pub estimate_drop_answer : Parameter → State → Result ℕ Fault
estimate_drop_answer r x = drop_answer parameter_order r x.used.estimates x.estimates

abbrev pub estimate_dropped : Parameter → State → State
estimate_dropped r x = estimate_rows x (drop_rows parameter_order blank_parameter r x.used.estimates x.estimates) (result_unwrap_or (estimate_drop_answer r x) x.used.estimates)

-- ---- cells

-- a rank is opened where a new estimate goes; one that is there has its rank
abbrev pub open_answer : Result ℕ ℕ → State → Result (Unit {0}) Fault
open_answer (Ok k) x = Ok tt
open_answer (Err k) x = cond (openable (length x.cells) x.used.estimates k) (Ok tt) (Err TableFull)

abbrev pub rank_opened : Result ℕ ℕ → State → State
rank_opened (Ok k) x = x
rank_opened (Err k) x = cell_rows x (rows_of x.places.estimates (opened_in zero_number (length x.cells) x.used.estimates k (cell zero_number x.cells)))

abbrev pub close_answer : ℕ → State → Result (Unit {0}) Fault
close_answer k x = cond (closable (length x.cells) x.used.estimates k) (Ok tt) (Err RecordAbsent)

abbrev pub rank_closed : ℕ → State → State
rank_closed k x = cell_rows x (rows_of x.places.estimates (closed_in zero_number (length x.cells) x.used.estimates k (cell zero_number x.cells)))

abbrev pub cell_answer : ℕ → ℕ → State → Result (Unit {0}) Fault
cell_answer i j x = cond (seen (length x.cells) i j) (Ok tt) (Err WrongCell)

abbrev pub cell_set : ℕ → ℕ → Number → State → State
cell_set i j v x = cell_rows x (cond (seen (length x.cells) i j) (slice_set x.cells (spot i j) v) x.cells)
