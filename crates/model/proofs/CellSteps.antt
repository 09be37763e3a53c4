-- The triangle of a register: a rank opened, a rank closed and a cell set, against the cells of the solution by keys. Assumes nothing.
use Rattle.std.proofs.Common.{◌≡◌, ℕ, ◌+◌, ◌-◌, ◌<◌, ◌≤◌, min, max, Bool, true, false, cond, ◌&&◌, ◌||◌, eqb, ltb, leb, List, length, get_or, set, replicate, Ok, Err, sym, refl, ap, ◌∙◌, ap₂, ⊎_elim, arith}
use Rattle.decimals.specs.Number.{zero_number}
use Rattle.decimals.specs.declared.number.Number.{Number}
use Rattle.model.proofs.Looking.{arranged_is, arranged-past, cell-arranged, length-arranged, look_at, look-found, look_no_first, look_no_second, look_sym, set_sym, set_to}
use Rattle.model.proofs.Ranks.{added_at, dropped_at, found_says, gap_says, key-at, length_added, length_dropped, length_replaced, placed_own, replaced_at}
use Rattle.model.proofs.Sameness.{cell-past}
use Rattle.model.specs.Cells.{arranged, look, same_pair}
use Rattle.model.specs.Edits.{with_cell, with_estimates}
use Rattle.model.specs.Solutions.{Ordered, Solution}
use Rattle.model.specs.States.{Stands, State, allowed}
use Rattle.model.specs.Steps.{cell_answer, cell_rows, cell_set, close_answer, open_answer, rank_closed, rank_opened}
use Rattle.model.specs.declared.counts.Counts.{Counts}
use Rattle.records.specs.KeyOrders.{parameter_order_lem}
use Rattle.records.specs.Parameters.{blank_parameter, parameter_order}
use Rattle.records.specs.declared.parameters.Parameter.{Parameter}
use Rattle.refusals.specs.declared.Fault.TheVariants.{RecordAbsent, TableFull, WrongCell}
use Rattle.std.proofs.lemmas.List.{get_or_append_left, get_or-append_right, get_or_past, get_or-replicate, length-replicate, length-set}
use Rattle.std.proofs.lemmas.Bool.{and_from, and_left, and_parts, and_right, cases_lt, cond-false, cond-true, eqb-false, eqb-true, le-leb, leb-true, lt-leb, lt-ltb, ne_eqb}
use Rattle.std.proofs.lemmas.Bool.Decides.{nat_tests}
use Rattle.tables.proofs.Standing.{length-laid}
use Rattle.tables.specs.Lists.{holds as is_held, laid, place, put, without}
use Rattle.triangle.proofs.Drawn.{drawn_as, pinned}
use Rattle.triangle.proofs.Lifts.{jump_le}
use Rattle.triangle.proofs.Rules.{closes, opens}
use Rattle.triangle.proofs.Tri.{cell_set_lem, low_below, tri_le, tri_more}
use Rattle.triangle.specs.Laws.{Blank}
use Rattle.triangle.specs.Triangle.{cell, closable, closed, closed_in, holds, jump, openable, opened, opened_in, rows_of, same, seen, skip, spot, tri}

-- ---- a triangle laid out before zeros

-- the blanks are what a read past the end gives
pub at-laid : {X : Type 0} (z : X) (m : ℕ) (xs : List X) (k : ℕ) → get_or (laid z m xs) k z ≡ get_or xs k z
at-laid z m xs k =
    let rest = replicate (m - length xs) z in
    ⊎_elim
    (λ lt. get_or_append_left xs rest z k lt)
    (λ ge.
    get_or-append_right xs rest (length xs) k z refl ge
    ∙ ⊎_elim
    (λ lt. get_or-replicate (m - length xs) (k - length xs) z z lt)
    (λ past. get_or_past rest (k - length xs) z (omega (arith, length-replicate (m - length xs) z)))
    (cases_lt (k - length xs) (m - length xs))
    ∙ sym (get_or_past xs k z ge))
    (cases_lt k (length xs))

pub cell-laid : {X : Type 0} (z : X) (m : ℕ) (xs : List X) (i j : ℕ) → cell z (laid z m xs) i j ≡ cell z xs i j
cell-laid z m xs i j = at-laid z m xs (spot i j)

-- the rows of a matrix that the list xs has
pub rows-laid : (p : ℕ) (g : ℕ → ℕ → Number) (xs : List Number) → length xs ≤ tri p → ((i j : ℕ) → cell zero_number xs i j ≡ g i j)
    → rows_of p g ≡ laid zero_number (tri p) xs
rows-laid p g xs fits is =
    sym (drawn_as zero_number (laid zero_number (tri p) xs) p (length-laid zero_number (tri p) xs fits) g (λ i j. cell-laid zero_number (tri p) xs i j ∙ is i j))

-- ---- ranks and tests

skip_below : (k n i : ℕ) → k ≤ n → i < n + 1 → (i ≡ k → ⊥) → skip k i < n
skip_below k n i le lt ne = grind (arith, nat_tests)

-- the cell of two records of which one or both may be r, which is absent
unless_new : (s : Solution) (r : Parameter) (a b : Bool) (x y : Parameter) (v : Number) → is_held parameter_order r s.estimates ≡ false → (a ≡ false → b ≡ false → look s x y ≡ v)
    → look s (cond a r x) (cond b r y) ≡ cond (a || b) zero_number v
unless_new s r true b x y v h e = look_no_first s r _ h
unless_new s r false true x y v h e = look_no_second s x r h
unless_new s r false false x y v h e = e refl refl

pair_same : (i j k l : ℕ) → ((eqb k i && eqb l j) || (eqb k j && eqb l i)) ≡ same i j k l
pair_same i j k l = grind (arith, nat_tests, cases_lt i j, cases_lt k l)

same_no : (i j k l : ℕ) → max i j < max k l → same i j k l ≡ false
same_no i j k l lt = and_left (eqb (max k l) (max i j)) (eqb (min k l) (min i j)) (ne_eqb (max k l) (max i j) (λ e. omega arith))

-- ---- of p places for estimates, n are used

module _ (p : ℕ) (s : Solution) (limit : p ≤ 2000) (fits : length s.estimates ≤ p) (o : Ordered s) where
  abbrev n : ℕ
  n = length s.estimates

  abbrev table : List Number
  table = laid zero_number (tri p) s.cells

  cells-within : length s.cells ≤ tri p
  cells-within = omega (arith, o.whole, tri_le n p fits)

  pub long_table : length table ≡ tri p
  long_table = length-laid zero_number (tri p) s.cells cells-within

  table_blank : Blank zero_number n (cell zero_number table)
  table_blank i j h = cell-laid zero_number (tri p) s.cells i j ∙ cell-past s.cells n i j o.whole h

  table_cell : (i j : ℕ) → i < n → j < n → cell zero_number table i j ≡ look s (get_or s.estimates i blank_parameter) (get_or s.estimates j blank_parameter)
  table_cell i j hi hj = cell-laid zero_number (tri p) s.cells i j ∙ sym (look_at s o.estimates i j hi hj)

  -- ---- a rank is opened

  pub can_open : (k : ℕ) → n < p → k ≤ n → openable (length table) n k ≡ true
  can_open k lt le =
      and_from (holds (length table) (n + 1)) (leb k n)
      (and_from (leb (n + 1) 2000) (leb (tri (n + 1)) (length table))
      (le-leb (n + 1) 2000 (omega arith))
      (le-leb (tri (n + 1)) (length table) (omega (arith, long_table, tri_le (n + 1) p (omega arith)))))
      (le-leb k n le)

  pub cannot_open : (k : ℕ) → p ≤ n → openable (length table) n k ≡ false
  cannot_open k full =
      let more = tri_le p n full in
      let up : tri (n + 1) ≡ tri n + (n + 1) = tri_more n in
      and_left (holds (length table) (n + 1)) (leb k n)
      (and_right (leb (n + 1) 2000) (leb (tri (n + 1)) (length table))
      (lt-leb (tri (n + 1)) (length table) (omega (arith, long_table))))

  module _ (r : Parameter) (k : ℕ) (at : place parameter_order r s.estimates ≡ Err k) where
    abbrev es' : List Parameter
    es' = put parameter_order r s.estimates

    -- the cell of two ranks of the longer list
    added_look : (i j : ℕ) → i < n + 1 → j < n + 1
        → look s (get_or es' i blank_parameter) (get_or es' j blank_parameter) ≡ cond (eqb i k || eqb j k) zero_number (cell zero_number table (skip k i) (skip k j))
    added_look i j hi hj =
        let g = gap_says parameter_order r s.estimates k at in
        ap₂ (look s) (added_at parameter_order r s.estimates k at i blank_parameter) (added_at parameter_order r s.estimates k at j blank_parameter)
        ∙ unless_new s r (eqb i k) (eqb j k) _ _ (cell zero_number table (skip k i) (skip k j)) g.held
        (λ ni nj. sym (table_cell (skip k i) (skip k j) (skip_below k n i g.within hi (eqb-false i k ni)) (skip_below k n j g.within hj (eqb-false j k nj))))

    opened-cell : n < p → (i j : ℕ) → cell zero_number (arranged es' (look s)) i j ≡ opened_in zero_number (length table) n k (cell zero_number table) i j
    opened-cell lt i j =
        let f = cell zero_number table in
        let le = (gap_says parameter_order r s.estimates k at).within in
        let long : length es' ≡ n + 1 = length_added parameter_order r s.estimates k at in
        let law = opens Number zero_number f n k le table_blank in
        ⊎_elim
        (λ below.
        cell-arranged es' (look s) (look_sym s) i j (omega arith) (omega arith)
        ∙ added_look i j (omega arith) (omega arith)
        ∙ sym (law.0 i j))
        (λ past. arranged-past es' (look s) i j (omega arith) ∙ sym (law.1 i j past))
        (cases_lt (max i j) (n + 1))
        ∙ sym (cond-true (openable (length table) n k) (opened zero_number n k f i j) (f i j) (can_open k lt le))

    -- a rank opened where a place is free: the cells of the solution with the new estimate
    pub opened-cells : n < p → rows_of p (opened_in zero_number (length table) n k (cell zero_number table)) ≡ laid zero_number (tri p) (arranged es' (look s))
    opened-cells lt =
        let long : length es' ≡ n + 1 = length_added parameter_order r s.estimates k at in
        rows-laid p (opened_in zero_number (length table) n k (cell zero_number table)) (arranged es' (look s))
        (omega (arith, length-arranged es' (look s), tri_le (length es') p (omega arith))) (opened-cell lt)

  -- no place is free: the triangle stays
  pub unopened_cells : (k : ℕ) → p ≤ n → rows_of p (opened_in zero_number (length table) n k (cell zero_number table)) ≡ table
  unopened_cells k full =
      sym (drawn_as zero_number table p long_table (opened_in zero_number (length table) n k (cell zero_number table))
      (λ i j. sym (cond-false (openable (length table) n k) (opened zero_number n k (cell zero_number table) i j) (cell zero_number table i j) (cannot_open k full))))

  -- an estimate replaced has the cells of the one before
  pub replaced_cells : (r : Parameter) (k : ℕ) → place parameter_order r s.estimates ≡ Ok k → arranged (put parameter_order r s.estimates) (look s) ≡ s.cells
  replaced_cells r k at =
      let long : length (put parameter_order r s.estimates) ≡ n = length_replaced parameter_order r s.estimates k at in
      arranged_is (put parameter_order r s.estimates) (look s) (look_sym s) s.cells (o.whole ∙ ap tri (sym long))
      (λ i j hi hj. sym (look-found s _ _ i j (stays i (omega arith)) (stays j (omega arith))))
    where
      stays_by : (b : Bool) (i : ℕ) → (b ≡ true → i ≡ k) → i < n → place parameter_order (cond b r (get_or s.estimates i blank_parameter)) s.estimates ≡ Ok i
      stays_by true i e lt = at ∙ ap Ok (sym (e refl))
      stays_by false i e lt = placed_own parameter_order parameter_order_lem s.estimates o.estimates i blank_parameter lt

      stays : (i : ℕ) → i < n → place parameter_order (get_or (put parameter_order r s.estimates) i blank_parameter) s.estimates ≡ Ok i
      stays i lt =
          ap (λ x. place parameter_order x s.estimates) (replaced_at parameter_order r s.estimates k at i blank_parameter)
          ∙ stays_by (eqb i k) i (eqb-true i k) lt

  -- ---- a rank is closed

  pub can_close : (k : ℕ) → k < n → closable (length table) n k ≡ true
  can_close k lt =
      and_from (holds (length table) n) (ltb k n)
      (and_from (leb n 2000) (leb (tri n) (length table))
      (le-leb n 2000 (omega arith))
      (le-leb (tri n) (length table) (omega (arith, long_table, tri_le n p fits))))
      (lt-ltb k n lt)

  module _ (r : Parameter) (k : ℕ) (at : place parameter_order r s.estimates ≡ Ok k) where
    abbrev fewer : List Parameter
    fewer = without parameter_order r s.estimates

    closed-cell : (i j : ℕ) → cell zero_number (arranged fewer (look s)) i j ≡ closed_in zero_number (length table) n k (cell zero_number table) i j
    closed-cell i j =
        let f = cell zero_number table in
        let lt = (found_says parameter_order r s.estimates k at).within in
        let long : length fewer + 1 ≡ n = length_dropped parameter_order r s.estimates k at in
        let law = closes Number zero_number f n k lt table_blank in
        ⊎_elim
        (λ below.
        cell-arranged fewer (look s) (look_sym s) i j (omega arith) (omega arith)
        ∙ ap₂ (look s) (dropped_at parameter_order r s.estimates k at i blank_parameter) (dropped_at parameter_order r s.estimates k at j blank_parameter)
        ∙ sym (table_cell (jump k i) (jump k j) (omega (arith, jump_le k i)) (omega (arith, jump_le k j)))
        ∙ sym (law.0 i j))
        (λ past. arranged-past fewer (look s) i j past ∙ sym (law.1 i j (omega arith)))
        (cases_lt (max i j) (length fewer))
        ∙ sym (cond-true (closable (length table) n k) (closed zero_number n k f i j) (f i j) (can_close k lt))

    -- a rank closed: the cells of the solution without the estimate
    pub closed-cells : rows_of p (closed_in zero_number (length table) n k (cell zero_number table)) ≡ laid zero_number (tri p) (arranged fewer (look s))
    closed-cells =
        let long : length fewer + 1 ≡ n = length_dropped parameter_order r s.estimates k at in
        rows-laid p (closed_in zero_number (length table) n k (cell zero_number table)) (arranged fewer (look s))
        (omega (arith, length-arranged fewer (look s), tri_le (length fewer) p (omega arith))) closed-cell

  -- ---- a cell is set

  pub can_see : (i j : ℕ) → i < n → j < n → seen (length table) i j ≡ true
  can_see i j hi hj =
      and_from (ltb (max i j) 2000) (ltb (spot i j) (length table))
      (lt-ltb (max i j) 2000 (omega arith))
      (lt-ltb (spot i j) (length table) (omega (arith, long_table, low_below (max i j) (min i j) p (omega arith) (omega arith))))

  module _ (a b : Parameter) (v : Number) (i j : ℕ) (at_a : place parameter_order a s.estimates ≡ Ok i) (at_b : place parameter_order b s.estimates ≡ Ok j) where
    -- the two ranks have the keys of a and b exactly if they are i and j
    pair_at : (k l : ℕ) → k < n → l < n → same_pair a b (get_or s.estimates k blank_parameter) (get_or s.estimates l blank_parameter) ≡ same i j k l
    pair_at k l hk hl =
        let key = key-at parameter_order parameter_order_lem s.estimates o.estimates in
        ap₂ ◌||◌
        (ap₂ ◌&&◌ (key a i k blank_parameter at_a hk) (key b j l blank_parameter at_b hl))
        (ap₂ ◌&&◌ (key b j k blank_parameter at_b hk) (key a i l blank_parameter at_a hl))
        ∙ pair_same i j k l

    set-cell : (k l : ℕ) → cell zero_number (set table (spot i j) v) k l ≡ cell zero_number (arranged s.estimates (set_to s a b v)) k l
    set-cell k l =
        let hi = (found_says parameter_order a s.estimates i at_a).within in
        let hj = (found_says parameter_order b s.estimates j at_b).within in
        let here : spot i j < length table = omega (arith, long_table, low_below (max i j) (min i j) p (omega arith) (omega arith)) in
        cell_set_lem zero_number table i j v here k l
        ∙ ⊎_elim
        (λ below.
        let hk : k < n = omega arith in
        let hl : l < n = omega arith in
        ap₂ (λ t x. cond t v x) (sym (pair_at k l hk hl)) (table_cell k l hk hl)
        ∙ sym (cell-arranged s.estimates (set_to s a b v) (set_sym s a b v) k l hk hl))
        (λ past.
        cond-false (same i j k l) v (cell zero_number table k l) (same_no i j k l (omega arith))
        ∙ table_blank k l past
        ∙ sym (arranged-past s.estimates (set_to s a b v) k l past))
        (cases_lt (max k l) n)

    -- a cell set by ranks is the cell set by keys
    pub set-cells : set table (spot i j) v ≡ laid zero_number (tri p) (arranged s.estimates (set_to s a b v))
    set-cells =
        let long : length (arranged s.estimates (set_to s a b v)) ≡ tri n = length-arranged s.estimates (set_to s a b v) in
        let le : length (arranged s.estimates (set_to s a b v)) ≤ tri p = omega (arith, tri_le n p fits) in
        pinned zero_number (set table (spot i j) v) (laid zero_number (tri p) (arranged s.estimates (set_to s a b v)))
        (length-set table (spot i j) v ∙ long_table ∙ sym (length-laid zero_number (tri p) (arranged s.estimates (set_to s a b v)) le))
        (λ k l. set-cell k l ∙ sym (cell-laid zero_number (tri p) (arranged s.estimates (set_to s a b v)) k l))

-- ---- register and tables stand for s

pub estimates_limit : (P : Counts) → allowed P ≡ true → P.estimates ≤ 2000
estimates_limit P e =
    let a = (and_parts (leb P.sites 1000) _ e).1 in
    let b = (and_parts (leb P.spans 2000) _ a).1 in
    leb-true P.estimates 2000 (and_parts (leb P.estimates 2000) _ b).0

module _ (x : State) (s : Solution) (st : Stands x s) where
  abbrev p : ℕ
  p = x.places.estimates

  limit : p ≤ 2000
  limit = estimates_limit x.places st.limits

  laid_cells : x.cells ≡ laid zero_number (tri p) s.cells
  laid_cells = ap (λ y. y.cells) st.laid_out

  used_many : x.used.estimates ≡ length s.estimates
  used_many = ap (λ y. y.used.estimates) st.laid_out

  -- the table and how much of it is used, in any term
  seen_as : {A : Type 0} (f : List Number → ℕ → A) → f x.cells x.used.estimates ≡ f (laid zero_number (tri p) s.cells) (length s.estimates)
  seen_as f = ap₂ f laid_cells used_many

  pub open_answers : (r : Parameter) (k : ℕ) → place parameter_order r s.estimates ≡ Err k → length s.estimates < p → open_answer (Err k) x ≡ Ok tt
  open_answers r k at lt =
      seen_as (λ c u. cond (openable (length c) u k) (Ok tt) (Err TableFull))
      ∙ cond-true _ (Ok tt) (Err TableFull) (can_open p s limit st.fits.estimates st.kept.ordered k lt (gap_says parameter_order r s.estimates k at).within)

  pub open_refused : (k : ℕ) → p ≤ length s.estimates → open_answer (Err k) x ≡ Err TableFull
  open_refused k full =
      seen_as (λ c u. cond (openable (length c) u k) (Ok tt) (Err TableFull))
      ∙ cond-false _ (Ok tt) (Err TableFull) (cannot_open p s limit st.fits.estimates st.kept.ordered k full)

  pub rank_opened_lem : (r : Parameter) (k : ℕ) → place parameter_order r s.estimates ≡ Err k → length s.estimates < p
      → rank_opened (Err k) x ≡ cell_rows x (laid zero_number (tri p) (with_estimates s (put parameter_order r s.estimates)).cells)
  rank_opened_lem r k at lt =
      ap (cell_rows x)
      (seen_as (λ c u. rows_of p (opened_in zero_number (length c) u k (cell zero_number c)))
      ∙ opened-cells p s limit st.fits.estimates st.kept.ordered r k at lt)

  pub close_answers : (r : Parameter) (k : ℕ) → place parameter_order r s.estimates ≡ Ok k → close_answer k x ≡ Ok tt
  close_answers r k at =
      seen_as (λ c u. cond (closable (length c) u k) (Ok tt) (Err RecordAbsent))
      ∙ cond-true _ (Ok tt) (Err RecordAbsent) (can_close p s limit st.fits.estimates st.kept.ordered k (found_says parameter_order r s.estimates k at).within)

  pub rank_closed_lem : (r : Parameter) (k : ℕ) → place parameter_order r s.estimates ≡ Ok k
      → rank_closed k x ≡ cell_rows x (laid zero_number (tri p) (with_estimates s (without parameter_order r s.estimates)).cells)
  rank_closed_lem r k at =
      ap (cell_rows x)
      (seen_as (λ c u. rows_of p (closed_in zero_number (length c) u k (cell zero_number c)))
      ∙ closed-cells p s limit st.fits.estimates st.kept.ordered r k at)

  module _ (a b : Parameter) (i j : ℕ) (at_a : place parameter_order a s.estimates ≡ Ok i) (at_b : place parameter_order b s.estimates ≡ Ok j) where
    sees_cell : seen (length x.cells) i j ≡ true
    sees_cell =
        ap (λ c. seen (length c) i j) laid_cells
        ∙ can_see p s limit st.fits.estimates st.kept.ordered i j
        (found_says parameter_order a s.estimates i at_a).within (found_says parameter_order b s.estimates j at_b).within

    pub cell-answers : cell_answer i j x ≡ Ok tt
    cell-answers = cond-true _ (Ok tt) (Err WrongCell) sees_cell

    pub cell_is_set : (v : Number) → cell_set i j v x ≡ cell_rows x (laid zero_number (tri p) (with_cell s a b v).cells)
    cell_is_set v =
        ap (cell_rows x)
        (cond-true _ (set x.cells (spot i j) v) x.cells sees_cell
        ∙ ap (λ c. set c (spot i j) v) laid_cells
        ∙ set-cells p s limit st.fits.estimates st.kept.ordered a b v i j at_a at_b)
