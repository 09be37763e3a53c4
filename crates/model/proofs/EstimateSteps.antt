-- Edits of estimates and of cells: what the steps on a register and its tables answer and leave, against the rules on solutions. Assumes nothing.
use Rattle.std.specs.Result.{result_unwrap_or}
use Rattle.std.proofs.Common.{◌≡◌, ℕ, ◌-◌, ◌<◌, ◌≤◌, max, Bool, true, false, cond, ◌&&◌, ◌||◌, ltb, leb, List, length, is_ok, Ok, Err, Result, sym, refl, ap, ◌∙◌, subst, ap₂, inl, ⊎_elim, arith}
use Rattle.decimals.proofs.Meaning.{numbers_come_back}
use Rattle.decimals.specs.Number.{read_number, zero_number}
use Rattle.decimals.specs.Write.{Canonical}
use Rattle.decimals.specs.declared.number.Number.{Number}
use Rattle.model.proofs.CellSteps.{cell-answers, cell_is_set, close_answers, estimates_limit, open_answers, open_refused, rank_closed_lem, rank_opened_lem, replaced_cells}
use Rattle.model.proofs.Laying.{cells_fit, estimate_place_lem, served_in_lem}
use Rattle.model.proofs.Looking.{Cells, arranged-past, cell_in_row, length-arranged, set_to}
use Rattle.model.proofs.Ranks.{found_says, gap_says, length_added, length_dropped, length_replaced}
use Rattle.model.proofs.Steps.{does_refused}
use Rattle.model.specs.Cells.{arranged, look, same_pair}
use Rattle.model.specs.Edits.{drop_estimate, put_estimate, room, set_cell, with_cell, with_estimates}
use Rattle.model.specs.Handed.{cell_number, demand}
use Rattle.model.specs.Needs.{served}
use Rattle.model.specs.Solutions.{Solution}
use Rattle.model.specs.States.{Does, Fits, Kept, Stands, State, allowed, state_of}
use Rattle.model.specs.Steps.{cell_answer, cell_rows, cell_set, close_answer, estimate_drop_answer, estimate_dropped, estimate_place, estimate_put, estimate_put_answer, estimate_rank, estimate_rows, open_answer, rank_closed, rank_opened, ranked_at, served_in}
use Rattle.model.specs.declared.counts.Counts.{Counts}
use Rattle.headings.specs.Lines.{and_then}
use Rattle.records.specs.KeyOrders.{parameter_order_lem}
use Rattle.records.specs.Parameters.{blank_parameter, parameter_order}
use Rattle.record_laws.specs.Valid.{ValidParameter}
use Rattle.records.specs.declared.parameters.Parameter.{Parameter}
use Rattle.refusals.specs.declared.Fault.{Fault}
use Rattle.refusals.specs.declared.Fault.TheVariants.{NeedMissing, RecordAbsent, TableFull, WrongNumber}
use Rattle.std.proofs.lemmas.Bool.{and_from, and_left, and_right, cases_lt, cond_both, cond-false, cond-true, le-ltb, lt-ltb, or_from, or_left, or_right}
use Rattle.tables.proofs.Edits.{drop_law, put_law}
use Rattle.tables.proofs.Standing.{laid_law, length-laid}
use Rattle.tables.specs.Keys.{Rising}
use Rattle.tables.specs.Laws.{Among, put_rule}
use Rattle.tables.specs.Lists.{holds, laid, place, put, without}
use Rattle.tables.specs.Rows.{plain}
use Rattle.triangle.specs.Triangle.{cell, tri}

-- ---- cells stay numbers that reading can give

canonical_arranged : (es : List Parameter) (f : Cells) → ((p q : Parameter) → Canonical 14 (f p q)) → (i j : ℕ) → Canonical 14 (cell zero_number (arranged es f) i j)
canonical_arranged es f h i j =
    ⊎_elim
    (λ lt. subst (Canonical 14) (sym (cell_in_row es f i j lt)) (h _ _))
    (λ ge. subst (Canonical 14) (sym (arranged-past es f i j ge)) (inl refl))
    (cases_lt (max i j) (length es))

pub canonical_look : (s : Solution) → Kept s → (p q : Parameter) → Canonical 14 (look s p q)
unfolding look
canonical_look s k p q =
    cond_both (holds parameter_order p s.estimates && holds parameter_order q s.estimates) _ zero_number (Canonical 14) (λ _. k.readable.cells _ _) (λ _. inl refl)

pub cell_number_canonical : (bs : List ℕ) (v : Number) → cell_number bs ≡ Ok v → Canonical 14 v
cell_number_canonical bs v e = numbers_come_back.0 bs v (short (leb (length bs) 21) e)
  where
    short : (b : Bool) → cond b (read_number bs) (Err WrongNumber) ≡ Ok v → read_number bs ≡ Ok v
    short true e = e
    short false e = let z : ◌≡◌ {A = ℕ} 0 1 = cc in absurd (omega arith)

-- ---- what holds of every solution goes on holding

pub kept_with_estimates : (s : Solution) (xs : List Parameter) → Kept s → Rising parameter_order xs → ((x : Parameter) → Among x xs → ValidParameter x)
    → ((x : Parameter) → Among x xs → served s x ≡ true) → Kept (with_estimates s xs)
kept_with_estimates s xs k up valid met = record {
  ordered = record {
    sites = k.ordered.sites;
    spans = k.ordered.spans;
    estimates = up;
    aprioris = k.ordered.aprioris;
    whole = length-arranged xs (look s);
  };
  readable = record {
    head = k.readable.head;
    sites = k.readable.sites;
    spans = k.readable.spans;
    estimates = valid;
    aprioris = k.readable.aprioris;
    cells = canonical_arranged xs (look s) (canonical_look s k);
  };
  needs = record { spans = k.needs.spans; estimates = met; aprioris = k.needs.aprioris };
}

pub kept_with_cell : (s : Solution) (p q : Parameter) (v : Number) → Kept s → Canonical 14 v → Kept (with_cell s p q v)
kept_with_cell s p q v k h = record {
  ordered = record {
    sites = k.ordered.sites;
    spans = k.ordered.spans;
    estimates = k.ordered.estimates;
    aprioris = k.ordered.aprioris;
    whole = length-arranged s.estimates (set_to s p q v);
  };
  readable = record {
    head = k.readable.head;
    sites = k.readable.sites;
    spans = k.readable.spans;
    estimates = k.readable.estimates;
    aprioris = k.readable.aprioris;
    cells = canonical_arranged s.estimates (set_to s p q v) (λ a b. cond_both (same_pair p q a b) v (look s a b) (Canonical 14) (λ _. h) (λ _. canonical_look s k a b));
  };
  needs = record { spans = k.needs.spans; estimates = k.needs.estimates; aprioris = k.needs.aprioris };
}

pub kept_put_estimate : (s : Solution) (r : Parameter) → Kept s → ValidParameter r → served s r ≡ true → Kept (with_estimates s (put parameter_order r s.estimates))
kept_put_estimate s r k valid met =
    let law = put_law parameter_order parameter_order_lem r s.estimates k.ordered.estimates in
    kept_with_estimates s (put parameter_order r s.estimates) k law.rises
    (λ x m. ⊎_elim (λ (e : x ≡ r). subst ValidParameter (sym e) valid) (λ n. k.readable.estimates x n.0) (law.only x m))
    (λ x m. ⊎_elim (λ (e : x ≡ r). ap (served s) e ∙ met) (λ n. k.needs.estimates x n.0) (law.only x m))

pub kept_drop_estimate : (s : Solution) (r : Parameter) → Kept s → Kept (with_estimates s (without parameter_order r s.estimates))
kept_drop_estimate s r k =
    let law = drop_law parameter_order parameter_order_lem r s.estimates k.ordered.estimates in
    kept_with_estimates s (without parameter_order r s.estimates) k law.rises
    (λ x m. k.readable.estimates x (law.only x m).0)
    (λ x m. k.needs.estimates x (law.only x m).0)

-- ---- steps by a rule

stands_laid : (P : Counts) (y : State) (t : Solution) → allowed P ≡ true → Fits P t → Kept t → y ≡ state_of P t → Stands y t
stands_laid P y t a f k e = subst (λ z. Stands z t) (sym e) (record { limits = a; laid_out = refl; fits = f; kept = k })

-- the rule accepts and gives u s, and the answer says so
does_by : (rule : Counts → Solution → Result Solution Fault) (u : Solution → Solution) (x : State) (a : Result (Unit {0}) Fault) (y : State) → y.places ≡ x.places
    → ((s : Solution) → Stands x s → (rule x.places s ≡ Ok (u s)) × (a ≡ Ok tt) × Stands y (u s)) → Does rule x a y
does_by rule u x a y p h = record {
  places = p;
  answers = λ s st. (h s st).1 ∙ ap plain (sym (h s st).0);
  leaves = λ s st. subst (λ r. Stands y (result_unwrap_or r s)) (sym (h s st).0) (h s st).2;
}

no_error : {A : Type 0} (P : Type 0) (a : A) (f : Fault) → ◌≡◌ {A = Result A Fault} (Ok a) (Err f) → P
no_error P a f e = let z : ◌≡◌ {A = ℕ} 0 1 = cc in absurd (omega arith)

one_fault : {A : Type 0} (f g : Fault) → ◌≡◌ {A = Result A Fault} (Err f) (Err g) → f ≡ g
one_fault f g e = cc

-- ---- an estimate is put

-- r has a place: that of its key, or a free one of p
record Ready (p : ℕ) (r : Parameter) (es : List Parameter) : Type 0 where
  within : length (put parameter_order r es) ≤ p
  counted : put_rule parameter_order r p es ≡ Ok (length (put parameter_order r es))
  roomy : (holds parameter_order r es || ltb (length es) p) ≡ true

ready_found : (p : ℕ) (r : Parameter) (es : List Parameter) (k : ℕ) → place parameter_order r es ≡ Ok k → length es ≤ p → Ready p r es
ready_found p r es k at le =
    let h = (found_says parameter_order r es k at).held in
    let long = length_replaced parameter_order r es k at in
    record { within = omega arith; counted = cond-true (holds parameter_order r es) _ _ h ∙ ap Ok (sym long); roomy = or_left _ _ h }

ready_gap : (p : ℕ) (r : Parameter) (es : List Parameter) (k : ℕ) → place parameter_order r es ≡ Err k → length es < p → Ready p r es
ready_gap p r es k at lt =
    let h = (gap_says parameter_order r es k at).held in
    let long = length_added parameter_order r es k at in
    record {
      within = omega arith;
      counted = cond-false (holds parameter_order r es) _ _ h ∙ cond-true (ltb (length es) p) _ _ (lt-ltb (length es) p lt) ∙ ap Ok (sym long);
      roomy = or_right (holds parameter_order r es) _ (lt-ltb (length es) p lt);
    }

-- the cells of the solution with r, the rows still those without it
abbrev opening : Counts → Solution → Parameter → State
opening P s r = cell_rows (state_of P s) (laid zero_number (tri P.estimates) (with_estimates s (put parameter_order r s.estimates)).cells)

module _ (P : Counts) (s : Solution) (r : Parameter) (fits : length s.estimates ≤ P.estimates) (up : Rising parameter_order s.estimates) (ready : Ready P.estimates r s.estimates) where
  put_count : estimate_put_answer r (opening P s r) ≡ Ok (length (put parameter_order r s.estimates))
  put_count = (laid_law parameter_order blank_parameter parameter_order_lem P.estimates r s.estimates fits up).put-answer ∙ ready.counted

  put_lays : estimate_put r (opening P s r) ≡ state_of P (with_estimates s (put parameter_order r s.estimates))
  put_lays =
      let law = laid_law parameter_order blank_parameter parameter_order_lem P.estimates r s.estimates fits up in
      ap₂ (estimate_rows (opening P s r))
      (law.put-rows ∙ ap (λ (a : Result ℕ Fault). laid blank_parameter P.estimates (cond (is_ok a) (put parameter_order r s.estimates) s.estimates)) ready.counted)
      (ap (λ (a : Result ℕ Fault). result_unwrap_or a (length s.estimates)) put_count)

put-accepted : (P : Counts) (s : Solution) (r : Parameter) → served s r ≡ true → Ready P.estimates r s.estimates
    → put_estimate P s r ≡ Ok (with_estimates s (put parameter_order r s.estimates))
put-accepted P s r met ready =
    let t = with_estimates s (put parameter_order r s.estimates) in
    ap₂ (λ a b. and_then (demand NeedMissing a) (λ _. and_then (demand TableFull b) (λ _. Ok t))) met ready.roomy

module _ (r : Parameter) (x : State) (s : Solution) (st : Stands x s) where
  long-cells : length x.cells ≡ tri x.places.estimates
  long-cells = ap (λ y. length y.cells) st.laid_out ∙ length-laid zero_number (tri x.places.estimates) s.cells (cells_fit x s st)

  -- where opening was answered Ok, r has a place, and the triangle is that of the solution with r
  opened_by : (q : Result ℕ ℕ) → place parameter_order r s.estimates ≡ q → open_answer q x ≡ Ok tt → Ready x.places.estimates r s.estimates × (rank_opened q x ≡ opening x.places s r)
  opened_by (Ok k) at ok =
      let p = x.places.estimates in
      let c : s.cells ≡ (with_estimates s (put parameter_order r s.estimates)).cells =
      sym (replaced_cells p s (estimates_limit x.places st.limits) st.fits.estimates st.kept.ordered r k at) in
      (ready_found p r s.estimates k at st.fits.estimates, st.laid_out ∙ ap (λ cs. cell_rows (state_of x.places s) (laid zero_number (tri p) cs)) c)
  opened_by (Err k) at ok =
      let p = x.places.estimates in
      let lt : length s.estimates < p =
      ⊎_elim (λ l. l) (λ full. no_error _ tt TableFull (sym ok ∙ open_refused x s st k full)) (cases_lt (length s.estimates) p) in
      let c = laid zero_number (tri p) (with_estimates s (put parameter_order r s.estimates)).cells in
      (ready_gap p r s.estimates k at lt, rank_opened_lem x s st r k at lt ∙ ap (λ y. cell_rows y c) st.laid_out)

pub estimate_put_does : (r : Parameter) → ValidParameter r → (x : State) → served_in x r ≡ true → open_answer (estimate_place r x) x ≡ Ok tt → (y : State)
    → (length x.cells ≡ tri x.places.estimates → y ≡ rank_opened (estimate_place r x) x) → y.places ≡ x.places
    → Does (λ P s. put_estimate P s r) x (plain (estimate_put_answer r y)) (estimate_put r y)
estimate_put_does r valid x met ok y opened places =
    does_by (λ P s. put_estimate P s r) (λ s. with_estimates s (put parameter_order r s.estimates)) x (plain (estimate_put_answer r y)) (estimate_put r y) places (λ s st.
    let P = x.places in
    let at = estimate_place_lem x s r st in
    let (ready, triangle) = opened_by r x s st (place parameter_order r s.estimates) refl (subst (λ q. open_answer q x ≡ Ok tt) at ok) in
    let is : y ≡ opening P s r = opened (long-cells r x s st) ∙ ap (λ q. rank_opened q x) at ∙ triangle in
    let up = st.kept.ordered.estimates in
    let here : served s r ≡ true = sym (served_in_lem x s r st) ∙ met in
    let t = with_estimates s (put parameter_order r s.estimates) in
    let fits : Fits P t = record { sites = st.fits.sites; spans = st.fits.spans; estimates = ready.within; aprioris = st.fits.aprioris } in (
      put-accepted P s r here ready,
      ap (λ z. plain (estimate_put_answer r z)) is ∙ ap plain (put_count P s r st.fits.estimates up ready),
      stands_laid P (estimate_put r y) t st.limits fits (kept_put_estimate s r st.kept valid here) (ap (estimate_put r) is ∙ put_lays P s r st.fits.estimates up ready),
    ))

-- what the estimate needs is missing
pub estimate_put_lacking : (r : Parameter) (x : State) → served_in x r ≡ false → Does (λ P s. put_estimate P s r) x (Err NeedMissing) x
estimate_put_lacking r x lacks =
    does_refused (λ P s. put_estimate P s r) x NeedMissing (λ s st.
    ap (λ b. and_then (demand NeedMissing b) (λ _. and_then (room parameter_order r x.places.estimates s.estimates) (λ _. Ok (with_estimates s (put parameter_order r s.estimates)))))
    (sym (served_in_lem x s r st) ∙ lacks))

-- opening is refused only where no place is free
full_by : (r : Parameter) (x : State) (s : Solution) → Stands x s → (q : Result ℕ ℕ) (f : Fault) → place parameter_order r s.estimates ≡ q → open_answer q x ≡ Err f
    → ((holds parameter_order r s.estimates || ltb (length s.estimates) x.places.estimates) ≡ false) × (TableFull ≡ f)
full_by r x s st (Ok k) f at refuses = no_error _ tt f refuses
full_by r x s st (Err k) f at refuses =
    let n = length s.estimates in
    let p = x.places.estimates in
    ⊎_elim
    (λ lt. no_error _ tt f (sym (open_answers x s st r k at lt) ∙ refuses))
    (λ full. (or_from _ _ (gap_says parameter_order r s.estimates k at).held (le-ltb n p full), one_fault TableFull f (sym (open_refused x s st k full) ∙ refuses)))
    (cases_lt n p)

pub estimate_put_full : (r : Parameter) (x : State) (f : Fault) → served_in x r ≡ true → open_answer (estimate_place r x) x ≡ Err f → Does (λ P s. put_estimate P s r) x (Err f) x
estimate_put_full r x f met refuses =
    does_refused (λ P s. put_estimate P s r) x f (λ s st.
    let (full, which) = full_by r x s st (place parameter_order r s.estimates) f refl (subst (λ q. open_answer q x ≡ Err f) (estimate_place_lem x s r st) refuses) in
    let t = with_estimates s (put parameter_order r s.estimates) in
    ap₂ (λ a b. and_then (demand NeedMissing a) (λ _. and_then (demand TableFull b) (λ _. Ok t))) (sym (served_in_lem x s r st) ∙ met) full ∙ ap Err which)

-- ---- ranks of estimates

rank_found : (q : Result ℕ ℕ) (k : ℕ) → ranked_at q ≡ Ok k → q ≡ Ok k
rank_found (Ok m) k e = cc
rank_found (Err m) k e = no_error _ k RecordAbsent (sym e)

rank_gap : (q : Result ℕ ℕ) (f : Fault) → ranked_at q ≡ Err f → ((k : ℕ) × (q ≡ Err k)) × (RecordAbsent ≡ f)
rank_gap (Ok m) f e = no_error _ m f e
rank_gap (Err m) f e = ((m, refl), one_fault RecordAbsent f e)

ranked : (r : Parameter) (x : State) (s : Solution) (k : ℕ) → Stands x s → estimate_rank r x ≡ Ok k → place parameter_order r s.estimates ≡ Ok k
ranked r x s k st e = rank_found (place parameter_order r s.estimates) k (sym (ap ranked_at (estimate_place_lem x s r st)) ∙ e)

unranked : (r : Parameter) (x : State) (s : Solution) (f : Fault) → Stands x s → estimate_rank r x ≡ Err f → (holds parameter_order r s.estimates ≡ false) × (RecordAbsent ≡ f)
unranked r x s f st e =
    let (g, which) = rank_gap (place parameter_order r s.estimates) f (sym (ap ranked_at (estimate_place_lem x s r st)) ∙ e) in
    ((gap_says parameter_order r s.estimates g.0 g.1).held, which)

-- ---- an estimate is dropped

-- the cells of the solution without r, the rows still those with it
abbrev closing : Counts → Solution → Parameter → State
closing P s r = cell_rows (state_of P s) (laid zero_number (tri P.estimates) (with_estimates s (without parameter_order r s.estimates)).cells)

module _ (P : Counts) (s : Solution) (r : Parameter) (k : ℕ) (fits : length s.estimates ≤ P.estimates) (up : Rising parameter_order s.estimates)
    (at : place parameter_order r s.estimates ≡ Ok k) where
  drop-count : estimate_drop_answer r (closing P s r) ≡ Ok (length (without parameter_order r s.estimates))
  drop-count =
      let long = length_dropped parameter_order r s.estimates k at in
      let less : length s.estimates - 1 ≡ length (without parameter_order r s.estimates) = omega arith in
      (laid_law parameter_order blank_parameter parameter_order_lem P.estimates r s.estimates fits up).drop-answer
      ∙ cond-true (holds parameter_order r s.estimates) _ _ (found_says parameter_order r s.estimates k at).held
      ∙ ap Ok less

  drop_lays : estimate_dropped r (closing P s r) ≡ state_of P (with_estimates s (without parameter_order r s.estimates))
  drop_lays =
      ap₂ (estimate_rows (closing P s r))
      (laid_law parameter_order blank_parameter parameter_order_lem P.estimates r s.estimates fits up).drop-rows
      (ap (λ (a : Result ℕ Fault). result_unwrap_or a (length s.estimates)) drop-count)

pub estimate_drop_does : (r : Parameter) (x : State) (k : ℕ) → estimate_rank r x ≡ Ok k → close_answer k x ≡ Ok tt → (y : State)
    → (length x.cells ≡ tri x.places.estimates → y ≡ rank_closed k x) → y.places ≡ x.places
    → Does (λ P s. drop_estimate s r) x (plain (estimate_drop_answer r y)) (estimate_dropped r y)
estimate_drop_does r x k rank ok y closed places =
    does_by (λ P s. drop_estimate s r) (λ s. with_estimates s (without parameter_order r s.estimates)) x (plain (estimate_drop_answer r y)) (estimate_dropped r y) places (λ s st.
    let P = x.places in
    let at = ranked r x s k st rank in
    let up = st.kept.ordered.estimates in
    let t = with_estimates s (without parameter_order r s.estimates) in
    let is : y ≡ closing P s r =
    closed (long-cells r x s st) ∙ rank_closed_lem x s st r k at ∙ ap (λ z. cell_rows z (laid zero_number (tri P.estimates) t.cells)) st.laid_out in
    let long = length_dropped parameter_order r s.estimates k at in
    let few : length s.estimates ≤ P.estimates = st.fits.estimates in
    let fits : Fits P t = record { sites = st.fits.sites; spans = st.fits.spans; estimates = omega arith; aprioris = st.fits.aprioris } in (
      ap (λ b. and_then (demand RecordAbsent b) (λ _. Ok t)) (found_says parameter_order r s.estimates k at).held,
      ap (λ z. plain (estimate_drop_answer r z)) is ∙ ap plain (drop-count P s r k few up at),
      stands_laid P (estimate_dropped r y) t st.limits fits (kept_drop_estimate s r st.kept) (ap (estimate_dropped r) is ∙ drop_lays P s r k few up at),
    ))

pub estimate_drop_absent : (r : Parameter) (x : State) (f : Fault) → estimate_rank r x ≡ Err f → Does (λ P s. drop_estimate s r) x (Err f) x
estimate_drop_absent r x f e =
    does_refused (λ P s. drop_estimate s r) x f (λ s st.
    let (absent, which) = unranked r x s f st e in
    ap (λ b. and_then (demand RecordAbsent b) (λ _. Ok (with_estimates s (without parameter_order r s.estimates)))) absent ∙ ap Err which)

-- the rank of an estimate that stands can be closed
pub estimate_drop_unclosed : (r : Parameter) (x : State) (k : ℕ) (f : Fault) → estimate_rank r x ≡ Ok k → close_answer k x ≡ Err f → Does (λ P s. drop_estimate s r) x (Err f) x
estimate_drop_unclosed r x k f e refuses =
    does_refused (λ P s. drop_estimate s r) x f (λ s st. no_error _ tt f (sym (close_answers x s st r k (ranked r x s k st e)) ∙ refuses))

-- ---- a cell is set

pub cell_set_does : (p q : Parameter) (v : Number) → Canonical 14 v → (x : State) (i j : ℕ) → estimate_rank p x ≡ Ok i → estimate_rank q x ≡ Ok j
    → Does (λ P s. set_cell s p q v) x (cell_answer i j x) (cell_set i j v x)
cell_set_does p q v h x i j rp rq =
    does_by (λ P s. set_cell s p q v) (λ s. with_cell s p q v) x (cell_answer i j x) (cell_set i j v x) refl (λ s st.
    let P = x.places in
    let a = ranked p x s i st rp in
    let b = ranked q x s j st rq in
    let t = with_cell s p q v in
    let fits : Fits P t = record { sites = st.fits.sites; spans = st.fits.spans; estimates = st.fits.estimates; aprioris = st.fits.aprioris } in (
      ap (λ c. and_then (demand RecordAbsent c) (λ _. Ok t)) (and_from _ _ (found_says parameter_order p s.estimates i a).held (found_says parameter_order q s.estimates j b).held),
      cell-answers x s st p q i j a b,
      stands_laid P (cell_set i j v x) t st.limits fits (kept_with_cell s p q v st.kept h)
          (cell_is_set x s st p q i j a b v ∙ ap (λ z. cell_rows z (laid zero_number (tri P.estimates) t.cells)) st.laid_out),
    ))

absent_cell : (p q : Parameter) (v : Number) (s : Solution) (f : Fault) → (holds parameter_order p s.estimates && holds parameter_order q s.estimates) ≡ false → RecordAbsent ≡ f
    → set_cell s p q v ≡ Err f
absent_cell p q v s f refuses which = ap (λ c. and_then (demand RecordAbsent c) (λ _. Ok (with_cell s p q v))) refuses ∙ ap Err which

pub cell_set_absent_first : (p q : Parameter) (v : Number) (x : State) (f : Fault) → estimate_rank p x ≡ Err f → Does (λ P s. set_cell s p q v) x (Err f) x
cell_set_absent_first p q v x f e =
    does_refused (λ P s. set_cell s p q v) x f (λ s st.
    let (absent, which) = unranked p x s f st e in absent_cell p q v s f (and_left _ _ absent) which)

pub cell_set_absent_second : (p q : Parameter) (v : Number) (x : State) (i : ℕ) (f : Fault) → estimate_rank p x ≡ Ok i → estimate_rank q x ≡ Err f → Does (λ P s. set_cell s p q v) x (Err f) x
cell_set_absent_second p q v x i f rank e =
    does_refused (λ P s. set_cell s p q v) x f (λ s st.
    let (absent, which) = unranked q x s f st e in absent_cell p q v s f (and_right (holds parameter_order p s.estimates) _ absent) which)
