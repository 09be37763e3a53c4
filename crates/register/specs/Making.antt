-- A register made over tables.
use Rattle.decimals.specs.Number.{zero_number}
use Rattle.model.specs.States.{State, Stands, allowed, nothing, own}
use Rattle.model.specs.declared.counts.Counts.{Counts}
use Rattle.records.specs.Parameters.{blank_parameter}
use Rattle.records.specs.Sites.{blank_site}
use Rattle.records.specs.Spans.{blank_span}
use Rattle.refusals.specs.declared.Fault.TheVariants.{TableLengths}
use Rattle.refusals.specs.declared.Refusal.{Refusal}
use Rattle.register.specs.Views.{SameSlices, view}
use Rattle.register.specs.declared.lent.Register.{Register}
use Rattle.register.specs.declared.lent.Tables.{Tables}
use Rattle.std.specs.Prelude.{◌≡◌, Bool, true, false, cond, ◌&&◌, length, replicate, None, Ok, Err, Result}

-- how many places the tables have for each sort of record
abbrev pub lengths_of : Tables → Counts
lengths_of t = record { sites = length t.sites.now; spans = length t.spans.now; estimates = length t.estimates.now; aprioris = length t.aprioris.now }

-- a register over so many places that holds nothing
abbrev pub fresh_register : Counts → Register
fresh_register P = record { places = P; used = record { sites = 0; spans = 0; estimates = 0; aprioris = 0 }; head = None }

-- every place blank, and as many as there were
abbrev pub blanked : State → State
blanked x = record {
  places = x.places;
  used = x.used;
  head = x.head;
  sites = replicate (length x.sites) blank_site;
  spans = replicate (length x.spans) blank_span;
  estimates = replicate (length x.estimates) blank_parameter;
  aprioris = replicate (length x.aprioris) blank_parameter;
  cells = replicate (length x.cells) zero_number;
  row = replicate (length x.row) 0;
}

-- the tables keep to the limits: as many places as are allowed, and a triangle and a working row for just the estimates' places
abbrev pub makeable : Tables → Bool
makeable t = allowed (lengths_of t) && own (view (fresh_register (lengths_of t)) t)

-- t were the tables before, a is the answer, u are the tables then
pub record Makes (t : Tables) (a : Result Register Refusal) (u : Tables) : Type 0 where
  pub answer : a ≡ cond (makeable t) (Ok (fresh_register (lengths_of t))) (Err (record { fault = TableLengths; line = 0 }))
  -- register and tables then stand for the solution without head and records
  pub granted : makeable t ≡ true → Stands (view (fresh_register (lengths_of t)) u) nothing
  pub refused : makeable t ≡ false → (g : Register) → view g u ≡ view g t
  pub slices : SameSlices t u
