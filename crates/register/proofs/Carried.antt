-- What a step by a rule came to, by the answer and the state that the code gives. Assumes nothing.
use Rattle.model.specs.Edits.{Call}
use Rattle.model.specs.Solutions.{Solution}
use Rattle.model.specs.States.{Does, Obeys, State}
use Rattle.model.specs.declared.counts.Counts.{Counts}
use Rattle.refusals.specs.declared.Fault.{Fault}
use Rattle.refusals.specs.declared.Refusal.{Refusal}
use Rattle.register.specs.Views.{SameSlices}
use Rattle.register.specs.declared.lent.Tables.{Tables}
use Rattle.std.proofs.Common.{◌≡◌, Result, sym, refl, ◌∙◌, subst}

pub carried : (rule : Counts → Solution → Result Solution Fault) (x : State) (a b : Result (Unit {0}) Fault) (y z : State) → b ≡ a → z ≡ y → Does rule x a y → Does rule x b z
carried rule x a b y z p q d = subst (λ w. Does rule x b w) (sym q) (subst (λ w. Does rule x w y) (sym p) d)

-- the same of a call's promise
pub obeyed : (c : Call) (x : State) (a b : Result (Unit {0}) Refusal) (y : State) → b ≡ a → Obeys c x a y → Obeys c x b y
obeyed c x a b y p o = subst (λ w. Obeys c x w y) (sym p) o

-- the same tables
pub slices_refl : (t : Tables) → SameSlices t t
slices_refl t = record { sites = refl; spans = refl; estimates = refl; aprioris = refl; cells = refl; row = refl }

pub slices-trans : (t u v : Tables) → SameSlices t u → SameSlices u v → SameSlices t v
slices-trans t u v p q = record {
  sites = q.sites ∙ p.sites;
  spans = q.spans ∙ p.spans;
  estimates = q.estimates ∙ p.estimates;
  aprioris = q.aprioris ∙ p.aprioris;
  cells = q.cells ∙ p.cells;
  row = q.row ∙ p.row;
}
