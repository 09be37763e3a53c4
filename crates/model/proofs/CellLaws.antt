-- What the edits come to, in cells by keys: an estimate put keeps every cell, one dropped takes its own away, a cell set is the only one that changes. Assumes nothing.
use Rattle.std.proofs.Common.{◌≡◌, ℕ, Bool, true, false, cond, ◌&&◌, ◌||◌, List, Ok, Err, Result, Equal, sym, refl, ap, ◌∙◌, subst, ⊎_elim}
use Rattle.codes.specs.Order.{is_equal}
use Rattle.decimals.specs.Number.{zero_number}
use Rattle.decimals.specs.declared.number.Number.{Number}
use Rattle.model.proofs.Looking.{arranged-own, look-alike, look-arranged, look_no_first, look_no_second, look_sym, set-alike, set_sym, set_to}
use Rattle.model.proofs.Ranks.{gone}
use Rattle.model.proofs.Tables.{holds-alike, holds-new, holds-put, holds-without, is_equal_lem, without-alike}
use Rattle.model.proofs.Undoing.{apriori_put_drop, never_ok, site_put_drop, span_put_drop, then_given, then_is}
use Rattle.model.specs.Cells.{arranged, look, same_key, same_pair}
use Rattle.model.specs.EditLaws.{CellIsSet, CellsAreSet, DropsKeepOtherCells, PutKeepsCells, PutThenDrop, PutsKeepCells}
use Rattle.model.specs.Edits.{Drop, Put, drop_estimate, estimate_named, outcome, put_estimate, room, set_cell, with_cell, with_estimates}
use Rattle.model.specs.Handed.{cell_number, data_line, demand}
use Rattle.model.specs.Needs.{served}
use Rattle.model.specs.Solutions.{Solution}
use Rattle.model.specs.States.{Kept}
use Rattle.model.specs.declared.counts.Counts.{Counts}
use Rattle.model.specs.declared.counts.Sort.TheVariants.{Site as SiteSort, Span as SpanSort, Estimate as EstimateSort, Apriori as AprioriSort}
use Rattle.records.specs.KeyOrders.{parameter_order_lem}
use Rattle.record_laws.proofs.Naming.{parameters_are_named}
use Rattle.headings.specs.Lines.{and_then}
use Rattle.records.specs.Parameters.{parameter_named, parameter_order, parameter_with, read_parameter}
use Rattle.records.specs.declared.parameters.Parameter.{Parameter}
use Rattle.refusals.specs.declared.Fault.{Fault}
use Rattle.refusals.specs.declared.Fault.TheVariants.{NeedMissing, RecordAbsent}
use Rattle.std.proofs.lemmas.Bool.{and_from, and_parts, and_right, both_ways, cond-false, cond-true, or_cases, or_left, or_right}
use Rattle.std.specs.Ordering.{ordering_reverse}
use Rattle.tables.proofs.Edits.{back_law, rises-put, rises-without}
use Rattle.std.proofs.lemmas.Cmp.{alike_right, tied_itself}
use Rattle.tables.specs.Lists.{holds, put, without}
use mathlib.Core.Path.{fun_ext}

-- ---- tests of two keys

unless_zero : (a b : Bool) (v : Number) → (a ≡ false → v ≡ zero_number) → (b ≡ false → v ≡ zero_number) → cond (a && b) v zero_number ≡ v
unless_zero true true v f g = refl
unless_zero true false v f g = sym (g refl)
unless_zero false b v f g = sym (f refl)

unless_gone : (a b c d : Bool) (v : Number) → (c ≡ true → a ≡ false) → (d ≡ true → b ≡ false) → (c ≡ false → a ≡ false → v ≡ zero_number) → (d ≡ false → b ≡ false → v ≡ zero_number)
    → cond (a && b) v zero_number ≡ cond (c || d) zero_number v
unless_gone a b true d v f g m n = ap (λ t. cond (t && b) v zero_number) (f refl)
unless_gone a b false true v f g m n = cond-false (a && b) v zero_number (and_right a b (g refl))
unless_gone a b false false v f g m n = unless_zero a b v (m refl) (n refl)

-- a implied by b: where a fails, b does
if_false : (a b : Bool) → (b ≡ true → a ≡ true) → a ≡ false → b ≡ false
if_false a true h e = absurd (both_ways a e (h refl))
if_false a false h e = refl

turn_equal : (p q : Parameter) → parameter_order p q ≡ Equal → parameter_order q p ≡ Equal
turn_equal p q e = parameter_order_lem.antisymm q p ∙ ap ordering_reverse e

-- ---- an estimate is put

module _ (s : Solution) (k : Kept s) (r : Parameter) where
  abbrev more : Solution
  more = with_estimates s (put parameter_order r s.estimates)

  pub put-seen : (p q : Parameter) → look more p q ≡ look s p q
  put-seen p q =
      let es = s.estimates in
      let up = k.ordered.estimates in
      let kept : (x : Parameter) → holds parameter_order x (put parameter_order r es) ≡ false → holds parameter_order x es ≡ false =
      λ x. if_false (holds parameter_order x (put parameter_order r es)) (holds parameter_order x es) (holds-put parameter_order parameter_order_lem x r es up) in
      look-arranged more (look s) (look_sym s) (look-alike s) (rises-put parameter_order parameter_order_lem r es up) refl p q
      ∙ unless_zero (holds parameter_order p (put parameter_order r es)) (holds parameter_order q (put parameter_order r es)) (look s p q)
      (λ e. look_no_first s p q (kept p e))
      (λ e. look_no_second s p q (kept q e))

-- ---- an estimate is dropped

module _ (s : Solution) (k : Kept s) (r : Parameter) where
  abbrev fewer : Solution
  fewer = with_estimates s (without parameter_order r s.estimates)

  pub drop-seen : (p q : Parameter) → look fewer p q ≡ cond (same_key p r || same_key q r) zero_number (look s p q)
  drop-seen p q =
      let es = s.estimates in
      let up = k.ordered.estimates in
      let lost : (x : Parameter) → same_key x r ≡ true → holds parameter_order x (without parameter_order r es) ≡ false =
      λ x e. gone parameter_order parameter_order_lem es up x r (is_equal_lem (parameter_order x r) e) in
      let kept : (x : Parameter) → same_key x r ≡ false → holds parameter_order x (without parameter_order r es) ≡ false → holds parameter_order x es ≡ false =
      λ x n. if_false (holds parameter_order x (without parameter_order r es)) (holds parameter_order x es)
      (holds-without parameter_order parameter_order_lem x r es up (λ e. both_ways (same_key x r) n (ap is_equal (turn_equal r x e)))) in
      look-arranged fewer (look s) (look_sym s) (look-alike s) (rises-without parameter_order parameter_order_lem r es up) refl p q
      ∙ unless_gone (holds parameter_order p (without parameter_order r es)) (holds parameter_order q (without parameter_order r es)) (same_key p r) (same_key q r) (look s p q)
      (lost p)
      (lost q)
      (λ n e. look_no_first s p q (kept p n e))
      (λ n e. look_no_second s p q (kept q n e))

-- ---- a cell is set

module _ (s : Solution) (k : Kept s) (p q : Parameter) (v : Number) (hp : holds parameter_order p s.estimates ≡ true) (hq : holds parameter_order q s.estimates ≡ true) where
  -- a record of a key that is held
  held-alike : (x y : Parameter) → holds parameter_order y s.estimates ≡ true → same_key x y ≡ true → holds parameter_order x s.estimates ≡ true
  held-alike x y h e =
      holds-alike parameter_order x y (λ z. sym (alike_right parameter_order_lem y x z (turn_equal x y (is_equal_lem (parameter_order x y) e)))) s.estimates ∙ h

  pair_held : (a b : Parameter) → same_pair p q a b ≡ true → (holds parameter_order a s.estimates ≡ true) × (holds parameter_order b s.estimates ≡ true)
  pair_held a b e =
      ⊎_elim
      (λ t. let (m, n) = and_parts (same_key a p) (same_key b q) t in (held-alike a p hp m, held-alike b q hq n))
      (λ t. let (m, n) = and_parts (same_key a q) (same_key b p) t in (held-alike a q hq m, held-alike b p hp n))
      (or_cases (same_key a p && same_key b q) (same_key a q && same_key b p) e)

  pub set-seen : (a b : Parameter) → look (with_cell s p q v) a b ≡ cond (same_pair p q a b) v (look s a b)
  set-seen a b =
      let es = s.estimates in
      look-arranged (with_cell s p q v) (set_to s p q v) (set_sym s p q v) (set-alike s p q v) k.ordered.estimates refl a b
      ∙ unless_zero (holds parameter_order a es) (holds parameter_order b es) (set_to s p q v a b)
      (λ e. cond-false (same_pair p q a b) v (look s a b) (if_false (holds parameter_order a es) (same_pair p q a b) (λ t. (pair_held a b t).0) e) ∙ look_no_first s a b e)
      (λ e. cond-false (same_pair p q a b) v (look s a b) (if_false (holds parameter_order b es) (same_pair p q a b) (λ t. (pair_held a b t).1) e) ∙ look_no_second s a b e)

  own_pair : (same_key p p && same_key q q) ≡ true
  own_pair = and_from _ _ (ap is_equal (tied_itself parameter_order_lem p)) (ap is_equal (tied_itself parameter_order_lem q))

  pub cell_now : CellIsSet s (with_cell s p q v) p q v
  cell_now = record {
    one = set-seen p q ∙ cond-true _ v (look s p q) (or_left _ _ own_pair);
    other =
        set-seen q p
        ∙ cond-true (same_pair p q q p) v (look s q p)
        (or_right (same_key q p && same_key p q) _ (and_from _ _ (ap is_equal (tied_itself parameter_order_lem q)) (ap is_equal (tied_itself parameter_order_lem p))));
    cells = set-seen;
    head = refl;
    sites = refl;
    spans = refl;
    estimates = refl;
    aprioris = refl;
  }

-- ---- calls that were accepted

ok_same : {A : Type 0} (a b : A) → ◌≡◌ {A = Result A Fault} (Ok a) (Ok b) → a ≡ b
ok_same a b e = cc

demand-given : {S : Type 0} (f : Fault) (b : Bool) (u t : S) → and_then (demand f b) (λ _. Ok u) ≡ Ok t → (b ≡ true) × (u ≡ t)
demand-given f true u t e = (refl, ok_same u t e)
demand-given f false u t e = absurd (never_ok f t e)

-- what a line that was put gave
put-given : (P : Counts) (s t : Solution) (bs : List ℕ) → outcome P s (Put EstimateSort bs) ≡ Ok t
    → (line : List ℕ) × (data_line bs ≡ Ok line) × ((r : Parameter) × (read_parameter line ≡ Ok r) × (with_estimates s (put parameter_order r s.estimates) ≡ t))
put-given P s t bs e =
    let (line, d, f) = then_given (data_line bs) (λ l. and_then (read_parameter l) (put_estimate P s)) t e in
    let (r, read, made) = then_given (read_parameter line) (put_estimate P s) t f in
    let u = with_estimates s (put parameter_order r s.estimates) in
    let (a, met, g) = then_given (demand NeedMissing (served s r)) (λ _. and_then (room parameter_order r P.estimates s.estimates) (λ _. Ok u)) t made in
    let (b, free, is) = then_given (room parameter_order r P.estimates s.estimates) (λ _. Ok u) t g in
    (line, d, (r, read, ok_same u t is))

-- a line that names r drops r
drops_named : (P : Counts) (s : Solution) (bs : List ℕ) (r : Parameter) → estimate_named bs ≡ Ok r → outcome P s (Drop EstimateSort bs) ≡ drop_estimate s r
drops_named P s bs r named =
    let (line, d, f) = then_given (data_line bs) parameter_named r named in
    then_is (data_line bs) (λ l. and_then (parameter_named l) (drop_estimate s)) line d ∙ then_is (parameter_named line) (drop_estimate s) r f

-- ---- the laws

pub puts_keep_cells : PutsKeepCells
puts_keep_cells P s t bs k e =
    let (line, d, (r, read, is)) = put-given P s t bs e in
    subst (λ u. PutKeepsCells P s u bs) is (record { kept = put-seen s k r; new = λ x named none q. put-seen s k r x q ∙ look_no_first s x q none })

pub drops_keep_other_cells : DropsKeepOtherCells
drops_keep_other_cells P s t bs r k named e p q =
    let u = with_estimates s (without parameter_order r s.estimates) in
    let (held, is) = demand-given RecordAbsent (holds parameter_order r s.estimates) u t (sym (drops_named P s bs r named) ∙ e) in
    ap (λ x. look x p q) (sym is) ∙ drop-seen s k r p q

pub cells_are_set : CellsAreSet
cells_are_set P s t first second text p q v k a b c e =
    let made : set_cell s p q v ≡ Ok t =
    sym (then_is (estimate_named first) (λ x. and_then (estimate_named second) (λ y. and_then (cell_number text) (λ w. set_cell s x y w))) p a
    ∙ then_is (estimate_named second) (λ y. and_then (cell_number text) (λ w. set_cell s p y w)) q b
    ∙ then_is (cell_number text) (λ w. set_cell s p q w) v c)
    ∙ e in
    let (held, is) = demand-given RecordAbsent (holds parameter_order p s.estimates && holds parameter_order q s.estimates) (with_cell s p q v) t made in
    let (hp, hq) = and_parts (holds parameter_order p s.estimates) (holds parameter_order q s.estimates) held in
    subst (λ u. CellIsSet s u p q v) is (cell_now s k p q v hp hq)

-- the estimates as they were, over cells as they were
same_again : (s : Solution) (k : Kept s) (r : Parameter) → with_estimates (with_estimates s (put parameter_order r s.estimates)) s.estimates ≡ s
same_again s k r =
    let t = with_estimates s (put parameter_order r s.estimates) in
    let seen : look t ≡ look s = fun_ext (λ p. fun_ext (λ q. put-seen s k r p q)) in
    let cells : arranged s.estimates (look t) ≡ s.cells = ap (arranged s.estimates) seen ∙ arranged-own s k.ordered in
    λ i. record { head = s.head; sites = s.sites; spans = s.spans; estimates = s.estimates; aprioris = s.aprioris; cells = cells i }

absent_by : {S : Type 0} (b : Bool) (t : S) → and_then (demand RecordAbsent b) (λ _. Ok t) ≡ Err RecordAbsent → b ≡ false
absent_by true t e = absurd (never_ok RecordAbsent t (sym e))
absent_by false t e = refl

-- an estimate that was absent, put and then dropped by the same line
pub estimate_put_drop : (P : Counts) (s t : Solution) (line : List ℕ) → Kept s → outcome P s (Drop EstimateSort line) ≡ Err RecordAbsent → outcome P s (Put EstimateSort line) ≡ Ok t
    → outcome P t (Drop EstimateSort line) ≡ Ok s
estimate_put_drop P s t bs k gone e =
    let (line, d, (r, read, is)) = put-given P s t bs e in
    let es = s.estimates in
    let q = parameter_with r.key in
    let named : estimate_named bs ≡ Ok q = then_is (data_line bs) parameter_named line d ∙ parameters_are_named line r read in
    let none : holds parameter_order q es ≡ false = absent_by (holds parameter_order q es) _ (sym (drops_named P s bs q named) ∙ gone) in
    let up = k.ordered.estimates in
    let u = with_estimates s (put parameter_order r es) in
    let there : holds parameter_order q (put parameter_order r es) ≡ true = holds-new parameter_order parameter_order_lem q r es up (tied_itself parameter_order_lem r) in
    let back : without parameter_order q (put parameter_order r es) ≡ es =
    without-alike parameter_order q r (λ y. refl) (put parameter_order r es) ∙ back_law parameter_order parameter_order_lem r es up (sym (holds-alike parameter_order q r (λ y. refl) es) ∙ none) in
    drops_named P t bs q named
    ∙ ap (λ x. drop_estimate x q) (sym is)
    ∙ ap (λ b. and_then (demand RecordAbsent b) (λ _. Ok (with_estimates u (without parameter_order q (put parameter_order r es))))) there
    ∙ ap (λ xs. Ok (with_estimates u xs)) back
    ∙ ap Ok (same_again s k r)

pub put_then_drop : PutThenDrop
put_then_drop P s t SiteSort line = site_put_drop P s t line
put_then_drop P s t SpanSort line = span_put_drop P s t line
put_then_drop P s t EstimateSort line = estimate_put_drop P s t line
put_then_drop P s t AprioriSort line = apriori_put_drop P s t line
