-- What holds of the edits, in words of records, cells and calls.
use Rattle.std.specs.Prelude.{◌≡◌, ℕ, true, false, cond, ◌||◌, List, Ok, Err, Result}
use Rattle.decimals.specs.Number.{zero_number}
use Rattle.decimals.specs.declared.number.Number.{Number}
use Rattle.model.specs.Cells.{look, same_key, same_pair}
use Rattle.model.specs.Edits.{Drop, Put, SetCell, drop_site, drop_span, estimate_named, outcome, with_sites, with_spans}
use Rattle.model.specs.Handed.{cell_number}
use Rattle.model.specs.Solutions.{Same, Solution}
use Rattle.model.specs.States.{Kept, NeedsMet, Stands, State}
use Rattle.model.specs.declared.counts.Counts.{Counts}
use Rattle.model.specs.declared.counts.Sort.{Sort}
use Rattle.model.specs.declared.counts.Sort.TheVariants.{Estimate as EstimateSort}
use Rattle.records.specs.Parameters.{parameter_order}
use Rattle.records.specs.Sites.{site_order}
use Rattle.records.specs.Spans.{span_order}
use Rattle.records.specs.declared.parameters.Parameter.{Parameter}
use Rattle.records.specs.declared.sites.Site.{Site}
use Rattle.records.specs.declared.spans.Span.{Span}
use Rattle.refusals.specs.declared.Fault.{Fault}
use Rattle.refusals.specs.declared.Fault.TheVariants.{RecordAbsent, StillNeeded}
use Rattle.tables.specs.Lists.{holds, without}

-- a record that was absent, put and then dropped by the same line: the solution is what it was
abbrev pub PutThenDrop : Type 0
PutThenDrop = (P : Counts) (s t : Solution) (sort : Sort) (line : List ℕ) → Kept s
    → outcome P s (Drop sort line) ≡ Err RecordAbsent → outcome P s (Put sort line) ≡ Ok t → outcome P t (Drop sort line) ≡ Ok s

-- an estimate put: no two keys have another cell than before, and a new estimate's cells are zero
pub record PutKeepsCells (P : Counts) (s t : Solution) (line : List ℕ) : Type 0 where
  pub kept : (p q : Parameter) → look t p q ≡ look s p q
  pub new : (r : Parameter) → estimate_named line ≡ Ok r → holds parameter_order r s.estimates ≡ false → (q : Parameter) → look t r q ≡ zero_number

abbrev pub PutsKeepCells : Type 0
PutsKeepCells = (P : Counts) (s t : Solution) (line : List ℕ) → Kept s → outcome P s (Put EstimateSort line) ≡ Ok t → PutKeepsCells P s t line

-- an estimate dropped: its cells are gone, and the others stay
abbrev pub DropsKeepOtherCells : Type 0
DropsKeepOtherCells = (P : Counts) (s t : Solution) (line : List ℕ) (r : Parameter) → Kept s → estimate_named line ≡ Ok r
    → outcome P s (Drop EstimateSort line) ≡ Ok t → (p q : Parameter) → look t p q ≡ cond (same_key p r || same_key q r) zero_number (look s p q)

-- a cell set: it is seen from both sides, no other changes, and nothing else does
pub record CellIsSet (s t : Solution) (p q : Parameter) (v : Number) : Type 0 where
  pub one : look t p q ≡ v
  pub other : look t q p ≡ v
  pub cells : (k l : Parameter) → look t k l ≡ cond (same_pair p q k l) v (look s k l)
  pub head : t.head ≡ s.head
  pub sites : t.sites ≡ s.sites
  pub spans : t.spans ≡ s.spans
  pub estimates : t.estimates ≡ s.estimates
  pub aprioris : t.aprioris ≡ s.aprioris

abbrev pub CellsAreSet : Type 0
CellsAreSet = (P : Counts) (s t : Solution) (first second text : List ℕ) (p q : Parameter) (v : Number) → Kept s
    → estimate_named first ≡ Ok p → estimate_named second ≡ Ok q → cell_number text ≡ Ok v
    → outcome P s (SetCell first second text) ≡ Ok t → CellIsSet s t p q v

-- of registers with as many places: equal tables mean the same solution, and the same solution means equal tables
abbrev pub TablesAreSolutions : Type 0
TablesAreSolutions = (x y : State) (s t : Solution) → Stands x s → Stands y t → x.places ≡ y.places → (x ≡ y → Same s t) × (Same s t → x ≡ y)

-- a drop by what it would leave: it is accepted exactly where that meets its needs, and refused as still needed exactly where it does not
pub record Decides (left : Solution) (a : Result Solution Fault) : Type 0 where
  pub accepted : a ≡ Ok left → NeedsMet left
  pub met : NeedsMet left → a ≡ Ok left
  pub refused : a ≡ Err StillNeeded → NeedsMet left → ⊥
  pub unmet : (NeedsMet left → ⊥) → a ≡ Err StillNeeded

-- of a site or a span that is there
pub record NeedsDecideDrops : Type 0 where
  pub sites : (s : Solution) (r : Site) → Kept s → holds site_order r s.sites ≡ true → Decides (with_sites s (without site_order r s.sites)) (drop_site s r)
  pub spans : (s : Solution) (r : Span) → Kept s → holds span_order r s.spans ≡ true → Decides (with_spans s (without span_order r s.spans)) (drop_span s r)
