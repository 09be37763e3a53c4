-- Steps of a call put together: what a read before a rule changes, and what a call promises by its rule. Assumes nothing.
use Rattle.std.specs.Result.{result_unwrap_or}
use Rattle.model.proofs.Laying.{stands_own}
use Rattle.model.specs.Edits.{Call, outcome, unplaced}
use Rattle.model.specs.Handed.{demand}
use Rattle.model.specs.Solutions.{Solution}
use Rattle.model.specs.States.{Does, Obeys, Stands, State, own, state_of}
use Rattle.model.specs.declared.counts.Counts.{Counts}
use Rattle.headings.specs.Lines.{and_then}
use Rattle.refusals.specs.declared.Fault.{Fault}
use Rattle.refusals.specs.declared.Fault.TheVariants.{TableLengths}
use Rattle.std.proofs.lemmas.Bool.{both_ways}
use Rattle.std.proofs.Common.{◌≡◌, Bool, true, false, is_ok, Ok, Err, Result, sym, refl, ap, ◌∙◌, subst}
use Rattle.tables.specs.Rows.{plain}

-- ---- steps by a rule

-- the rule refuses: the answer is its fault, and nothing changes
pub does_refused : (rule : Counts → Solution → Result Solution Fault) (x : State) (f : Fault) → ((s : Solution) → Stands x s → rule x.places s ≡ Err f) → Does rule x (Err f) x
does_refused rule x f h = record {
  places = refl;
  answers = λ s st. ap plain (sym (h s st));
  leaves = λ s st. subst (λ r. Stands x (result_unwrap_or r s)) (sym (h s st)) st;
}

-- the rule accepts and gives u s
pub does_accepted : (rule : Counts → Solution → Result Solution Fault) (u : Solution → Solution) (x y : State) → y.places ≡ x.places
    → ((s : Solution) → Stands x s → rule x.places s ≡ Ok (u s)) → ((s : Solution) → Stands x s → Stands y (u s)) → Does rule x (Ok tt) y
does_accepted rule u x y p h k = record {
  places = p;
  answers = λ s st. ap plain (sym (h s st));
  leaves = λ s st. subst (λ r. Stands y (result_unwrap_or r s)) (sym (h s st)) (k s st);
}

-- a test before the rest of a rule
pub demand_yes : {S : Type 0} (f : Fault) (b : Bool) (g : Unit {0} → Result S Fault) → b ≡ true → and_then (demand f b) g ≡ g tt
demand_yes f b g e = ap (λ t. and_then (demand f t) g) e

pub demand_no : {S : Type 0} (f : Fault) (b : Bool) (g : Unit {0} → Result S Fault) → b ≡ false → and_then (demand f b) g ≡ Err f
demand_no f b g e = ap (λ t. and_then (demand f t) g) e

-- a rule that comes to another one
pub does_as : (rule other : Counts → Solution → Result Solution Fault) (x : State) (a : Result (Unit {0}) Fault) (y : State)
    → ((s : Solution) → Stands x s → rule x.places s ≡ other x.places s) → Does other x a y → Does rule x a y
does_as rule other x a y h d = record {
  places = d.places;
  answers = λ s st. d.answers s st ∙ ap plain (sym (h s st));
  leaves = λ s st. subst (λ r. Stands y (result_unwrap_or r s)) (sym (h s st)) (d.leaves s st);
}

-- a read before the rule gives what the rule goes on with
pub does_then_ok : {A : Type 0} (r : Result A Fault) (g : Counts → Solution → A → Result Solution Fault) (a : A) (x : State) (b : Result (Unit {0}) Fault) (y : State) → r ≡ Ok a
    → Does (λ P s. g P s a) x b y → Does (λ P s. and_then r (g P s)) x b y
does_then_ok r g a x b y e d =
    does_as (λ P s. and_then r (g P s)) (λ P s. g P s a) x b y (λ s st. ap (λ t. and_then t (g x.places s)) e) d

-- ---- a refusal changes nothing

stays_by : (r : Result Solution Fault) (s : Solution) → is_ok (plain r) ≡ false → result_unwrap_or r s ≡ s
stays_by (Ok t) s e = absurd (both_ways true e refl)
stays_by (Err f) s e = refl

-- of one solution and as many places there is one state
pub stands_one : (x y : State) (s : Solution) → y.places ≡ x.places → Stands x s → Stands y s → y ≡ x
stands_one x y s p h k = k.laid_out ∙ ap (λ P. state_of P s) p ∙ sym h.laid_out

pub stands_as : (x y : State) (s t : Solution) → x ≡ y → s ≡ t → Stands y t → Stands x s
stands_as x y s t p q h = subst (λ z. Stands z s) (sym p) (subst (Stands y) (sym q) h)

pub does_nothing : (rule : Counts → Solution → Result Solution Fault) (x : State) (a : Result (Unit {0}) Fault) (y : State) → Does rule x a y
    → (s : Solution) → Stands x s → is_ok a ≡ false → y ≡ x
does_nothing rule x a y d s st e =
    let r = rule x.places s in
    let n : is_ok (plain r) ≡ false = subst (λ (t : Result (Unit {0}) Fault). is_ok t ≡ false) (d.answers s st) e in
    stands_one x y s d.places st (subst (Stands y) (stays_by r s n) (d.leaves s st))

-- ---- calls

refused_by : (a : Result (Unit {0}) Fault) → is_ok (unplaced a) ≡ false → is_ok a ≡ false
refused_by (Ok t) e = e
refused_by (Err f) e = refl

-- tables of other lengths
pub obeys_strange : (c : Call) (x : State) → own x ≡ false → Obeys c x (Err (record { fault = TableLengths; line = 0 })) x
obeys_strange c x e = record {
  places = refl;
  strange = λ n. (refl, refl);
  answers = λ s st. absurd (both_ways (own x) e (stands_own x s st));
  leaves = λ s st. absurd (both_ways (own x) e (stands_own x s st));
  refused = λ s st n. refl;
}

-- a step by the rule of the call
pub obeys_does : (c : Call) (x : State) (a : Result (Unit {0}) Fault) (y : State) → own x ≡ true → Does (λ P s. outcome P s c) x a y → Obeys c x (unplaced a) y
obeys_does c x a y o d = record {
  places = d.places;
  strange = λ n. absurd (both_ways (own x) n o);
  answers = λ s st. ap unplaced (d.answers s st);
  leaves = d.leaves;
  refused = λ s st n. does_nothing (λ P t. outcome P t c) x a y d s st (refused_by a n);
}
