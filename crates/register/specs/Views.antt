-- A register and the tables that it is handed, as one state.
use Rattle.model.specs.Solutions.{Solution}
use Rattle.model.specs.States.{Does, State}
use Rattle.model.specs.declared.counts.Counts.{Counts}
use Rattle.refusals.specs.declared.Fault.{Fault}
use Rattle.std.specs.Prelude.{◌≡◌, Result}
use Rattle.register.specs.declared.lent.Register.{Register}
use Rattle.register.specs.declared.lent.Tables.{Tables}

abbrev pub view : Register → Tables → State
view g t = record {
  places = g.places;
  used = g.used;
  head = g.head;
  sites = t.sites.now;
  spans = t.spans.now;
  estimates = t.estimates.now;
  aprioris = t.aprioris.now;
  cells = t.cells.now;
  row = t.row.now;
}

-- the same slices are lent, whatever they hold
pub record SameSlices (t u : Tables) : Type 0 where
  pub sites : u.sites.ghost_name ≡ t.sites.ghost_name
  pub spans : u.spans.ghost_name ≡ t.spans.ghost_name
  pub estimates : u.estimates.ghost_name ≡ t.estimates.ghost_name
  pub aprioris : u.aprioris.ghost_name ≡ t.aprioris.ghost_name
  pub cells : u.cells.ghost_name ≡ t.cells.ghost_name
  pub row : u.row.ghost_name ≡ t.row.ghost_name

-- a step on the register g with the tables t, by a rule on solutions: the answer a, and what they are then
abbrev pub Step : (Counts → Solution → Result Solution Fault) → Register → Tables → Result (Unit {0}) Fault → Register → Tables → Type 0
Step rule g t a h u = Does rule (view g t) a (view h u) × SameSlices t u
