-- What a register remembers and its tables hold, and when they stand for a solution.
use Rattle.std.specs.Result.{result_unwrap_or}
use Rattle.std.specs.Prelude.{◌≡◌, ℕ, ◌≤◌, Bool, true, false, ◌&&◌, List, [], length, replicate, is_ok, Some, None, Err, Option, Result, ◌==◌, nat_le}
use Rattle.decimals.specs.Number.{zero_number}
use Rattle.decimals.specs.Write.{Canonical}
use Rattle.decimals.specs.declared.number.Number.{Number}
use Rattle.model.specs.Edits.{Call, after, reply}
use Rattle.model.specs.Needs.{has_site, served}
use Rattle.model.specs.Solutions.{Ordered, Solution, cell_of}
use Rattle.model.specs.declared.counts.Counts.{Counts}
use Rattle.records.specs.Parameters.{blank_parameter}
use Rattle.records.specs.Sites.{blank_site}
use Rattle.records.specs.Spans.{blank_span}
use Rattle.record_laws.specs.Valid.{ValidHeader, ValidParameter, ValidSite, ValidSpan}
use Rattle.headings.specs.declared.headers.Head.{Head}
use Rattle.records.specs.declared.parameters.Parameter.{Parameter}
use Rattle.records.specs.declared.sites.Site.{Site}
use Rattle.records.specs.declared.spans.Span.{Span}
use Rattle.refusals.specs.declared.Fault.{Fault}
use Rattle.refusals.specs.declared.Fault.TheVariants.{TableLengths}
use Rattle.refusals.specs.declared.Refusal.{Refusal}
use Rattle.tables.specs.Laws.{Among}
use Rattle.tables.specs.Lists.{laid}
use Rattle.tables.specs.Rows.{plain}
use Rattle.triangle.specs.Triangle.{tri}

-- A register and the tables it is handed: the lengths it was made over, how many places are used, the head; and the tables whole.
pub record State : Type 0 where
  pub places : Counts
  pub used : Counts
  pub head : Option Head
  pub sites : List Site
  pub spans : List Span
  pub estimates : List Parameter
  pub aprioris : List Parameter
  pub cells : List Number
  pub row : List ℕ

abbrev pub counts_of : Solution → Counts
counts_of s = record { sites = length s.sites; spans = length s.spans; estimates = length s.estimates; aprioris = length s.aprioris }

-- the solution laid out over P places: records in order from the first place and blanks after them, the triangle row after row and
-- zeros after it, the working row zero
abbrev pub state_of : Counts → Solution → State
state_of P s = record {
  places = P;
  used = counts_of s;
  head = s.head;
  sites = laid blank_site P.sites s.sites;
  spans = laid blank_span P.spans s.spans;
  estimates = laid blank_parameter P.estimates s.estimates;
  aprioris = laid blank_parameter P.aprioris s.aprioris;
  cells = laid zero_number (tri P.estimates) s.cells;
  row = replicate P.estimates 0;
}

-- the solution of a register that was just made
abbrev pub nothing : Solution
nothing = record { head = None; sites = []; spans = []; estimates = []; aprioris = []; cells = [] }

-- what a register that was just made and its tables hold, over P places
abbrev pub blank_state : Counts → State
blank_state P = record {
  places = P;
  used = record { sites = 0; spans = 0; estimates = 0; aprioris = 0 };
  head = None;
  sites = replicate P.sites blank_site;
  spans = replicate P.spans blank_span;
  estimates = replicate P.estimates blank_parameter;
  aprioris = replicate P.aprioris blank_parameter;
  cells = replicate (tri P.estimates) zero_number;
  row = replicate P.estimates 0;
}

-- ---- lengths

-- a triangle over p estimates, as many as a register may have, has just n places
abbrev pub triangular : ℕ → ℕ → Bool
triangular p n = nat_le p 2000 && n == tri p

-- the tables that are handed in have the lengths that the register was made over
abbrev pub own : State → Bool
own x =
    (length x.sites == x.places.sites)
    && (length x.spans == x.places.spans
    && (length x.estimates == x.places.estimates
    && (length x.aprioris == x.places.aprioris
    && (triangular x.places.estimates (length x.cells) && length x.row == x.places.estimates))))

-- as many places as a register may be made over
abbrev pub allowed : Counts → Bool
allowed P = nat_le P.sites 1000 && (nat_le P.spans 2000 && (nat_le P.estimates 2000 && nat_le P.aprioris 2000))

pub record Fits (P : Counts) (s : Solution) : Type 0 where
  pub sites : length s.sites ≤ P.sites
  pub spans : length s.spans ≤ P.spans
  pub estimates : length s.estimates ≤ P.estimates
  pub aprioris : length s.aprioris ≤ P.aprioris

-- ---- what holds of every solution that a register comes to hold

abbrev pub ValidHead : Option Head → Type 0
ValidHead None = Unit {0}
ValidHead (Some h) = ValidHeader h.header

-- each record is one that reading a line can give, each cell a number that reading can give
pub record Readable (s : Solution) : Type 0 where
  pub head : ValidHead s.head
  pub sites : (x : Site) → Among x s.sites → ValidSite x
  pub spans : (x : Span) → Among x s.spans → ValidSpan x
  pub estimates : (x : Parameter) → Among x s.estimates → ValidParameter x
  pub aprioris : (x : Parameter) → Among x s.aprioris → ValidParameter x
  pub cells : (i j : ℕ) → Canonical 14 (cell_of s i j)

-- a span has its site; a parameter of a station has its site and a span
pub record NeedsMet (s : Solution) : Type 0 where
  pub spans : (x : Span) → Among x s.spans → has_site s x.key.at.site ≡ true
  pub estimates : (x : Parameter) → Among x s.estimates → served s x ≡ true
  pub aprioris : (x : Parameter) → Among x s.aprioris → served s x ≡ true

pub record Kept (s : Solution) : Type 0 where
  pub ordered : Ordered s
  pub readable : Readable s
  pub needs : NeedsMet s

-- register and tables stand for the solution s
pub record Stands (x : State) (s : Solution) : Type 0 where
  pub limits : allowed x.places ≡ true
  pub laid_out : x ≡ state_of x.places s
  pub fits : Fits x.places s
  pub kept : Kept s

-- ---- what a call promises: x stood before it, y after it, a is the answer

-- a step by a rule on solutions: what it answers, and what register and tables stand for then
pub record Does (rule : Counts → Solution → Result Solution Fault) (x : State) (a : Result (Unit {0}) Fault) (y : State) : Type 0 where
  pub places : y.places ≡ x.places
  pub answers : (s : Solution) → Stands x s → a ≡ plain (rule x.places s)
  pub leaves : (s : Solution) → Stands x s → Stands y (result_unwrap_or (rule x.places s) s)

pub record Obeys (c : Call) (x : State) (a : Result (Unit {0}) Refusal) (y : State) : Type 0 where
  -- it forgets no length that it was made over
  pub places : y.places ≡ x.places
  -- tables of other lengths
  pub strange : own x ≡ false → (a ≡ Err (record { fault = TableLengths; line = 0 })) × (y ≡ x)
  -- its own tables, as the calls before left them: the rules' answer, and the rules' solution held then
  pub answers : (s : Solution) → Stands x s → a ≡ reply x.places s c
  pub leaves : (s : Solution) → Stands x s → Stands y (after x.places s c)
  -- a refusal changes nothing
  pub refused : (s : Solution) → Stands x s → is_ok a ≡ false → y ≡ x
