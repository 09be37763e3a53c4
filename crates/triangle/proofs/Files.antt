-- What the elements of a block state, in whatever order they stand. Assumes nothing.
use Rattle.std.proofs.Common.{◌≡◌, ℕ, zero, suc, ◌-◌, ◌<◌, ◌≤◌, min, max, Bool, true, false, cond, ◌&&◌, eqb, leb, ◌⊎◌, List, [], ◌∷◌, ◌++◌, map, length, get_or, drop, is_ok, Ok, Err, Result, Decides, Ordering, Equal, sym, refl, ap, ◌∙◌, subst, inl, inr, ⊎_elim, arith}
use native.Mathlib.Nat.{max_comm, min_comm}
use Rattle.std.specs.Result.{result_unwrap_or}
use Rattle.std.proofs.lemmas.List.{get_or_append_left, get_or_default, get_or-map, length-map}
use Rattle.std.proofs.lemmas.Bool.{cases_eq, cases_Bool, cond-true, cond-false, eq-eqb, eqb-true, and_parts, and_from, or_cases, both_ways, leb-true}
use Rattle.std.proofs.lemmas.Bool.Decides.{same_from_decides, Decides-like}
use Rattle.std.specs.Cmp.{IsTotalOrder}
use Rattle.tables.specs.Rows.{sought, known, used_rows}
use Rattle.tables.specs.Laws.{Tells}
use Rattle.tables.proofs.Places.{search_law}
use Rattle.triangle.specs.declared.row.Element.{Element}
use Rattle.triangle.specs.declared.row.Side.{Side}
use Rattle.triangle.specs.Triangle.{same}
use Rattle.triangle.specs.Statements.{rank_in, all_known, counted, inside, on_side, rank_of, free, sound, stated, run, taken}
use Rattle.triangle.specs.Files.{Symmetric, EachStands, OthersStay, Renumbered, ByIndex, RanksApart, RanksFound, FillApart}
use Rattle.triangle.proofs.States.{stated_zero, stated-at, free_void}

abbrev Pair : ℕ → ℕ → ℕ → ℕ → Type 0
Pair i j a b = ((a ≡ i) × (b ≡ j)) ⊎ ((a ≡ j) × (b ≡ i))

pub same_decides : (i j a b : ℕ) → Decides (same i j a b) (Pair i j a b)
same_decides i j a b = (
  λ e. let p = and_parts (eqb (max a b) (max i j)) (eqb (min a b) (min i j)) e in
      let x = eqb-true (max a b) (max i j) p.0 in
      let y = eqb-true (min a b) (min i j) p.1 in
      ⊎_elim (λ q. inl (q, omega arith)) (λ ne. inr (omega arith, omega arith)) (cases_eq a i),
  λ h. and_from (eqb (max a b) (max i j)) (eqb (min a b) (min i j)) (eq-eqb (max a b) (max i j) (omega arith)) (eq-eqb (min a b) (min i j) (omega arith)),
)

pub renumbered : Renumbered
renumbered n ρ inj i j p q hi hj hp hq =
    same_from_decides (same (rank_of ρ i) (rank_of ρ j) (rank_of ρ p) (rank_of ρ q)) (same i j p q)
    (Decides-like (same (rank_of ρ i) (rank_of ρ j) (rank_of ρ p) (rank_of ρ q))
    (λ h. ⊎_elim (λ u. inl (inj p i hp hi u.0, inj q j hq hj u.1)) (λ u. inr (inj p j hp hj u.0, inj q i hq hi u.1)) h)
    (λ h. ⊎_elim (λ u. inl (ap (rank_of ρ) u.0, ap (rank_of ρ) u.1)) (λ u. inr (ap (rank_of ρ) u.0, ap (rank_of ρ) u.1)) h)
    (same_decides (rank_of ρ i) (rank_of ρ j) (rank_of ρ p) (rank_of ρ q)))
    (same_decides i j p q)

same_swap : (i j a b : ℕ) → same i j a b ≡ same i j b a
same_swap i j a b = ap (λ m. eqb m (max i j) && eqb (min a b) (min i j)) (max_comm a b) ∙ ap (λ m. eqb (max b a) (max i j) && eqb m (min i j)) (min_comm a b)

module _ (X : Type 0) (void : X → Bool) where
  module _ (ρ : List ℕ) (count : ℕ) (side : Side) (len : ℕ) where
    abbrev may : (ℕ → ℕ → X) → Element X → Bool
    may = sound void ρ count side len

    abbrev all : (ℕ → ℕ → X) → List (Element X) → ℕ → ℕ → X
    all = run void ρ count side len

    module _ (f : ℕ → ℕ → X) (e : Element X) (es : List (Element X)) where
      -- the first element stated, or not
      run_ok : may f e ≡ true → (a b : ℕ) → all f (e ∷ es) a b ≡ all (stated void ρ f e) es a b
      run_ok ok a b = ap (λ (g : ℕ → ℕ → X). g a b) (cond-true (may f e) (all (stated void ρ f e) es) f ok)

      run_bad : may f e ≡ false → (a b : ℕ) → all f (e ∷ es) a b ≡ f a b
      run_bad bad a b = ap (λ (g : ℕ → ℕ → X). g a b) (cond-false (may f e) (all (stated void ρ f e) es) f bad)

      zero_at : void e.value ≡ true → (a b : ℕ) → stated void ρ f e a b ≡ f a b
      zero_at z a b = ap (λ (g : ℕ → ℕ → X). g a b) (stated_zero void ρ count side len f e z)

      new-at : void e.value ≡ false → (a b : ℕ) → stated void ρ f e a b ≡ cond (same (rank_of ρ e.row) (rank_of ρ e.column) a b) e.value (f a b)
      new-at nz a b = stated-at void ρ count side len f e nz a b

      all_sound : taken void ρ count side len f (e ∷ es) ≡ suc (length es) → (may f e ≡ true) × (taken void ρ count side len (stated void ρ f e) es ≡ length es)
      all_sound n =
          ⊎_elim
          (λ ok. (ok, omega (arith, cond-true (may f e) (suc (taken void ρ count side len (stated void ρ f e) es)) 0 ok, n)))
          (λ bad. absurd (omega (arith, cond-false (may f e) (suc (taken void ρ count side len (stated void ρ f e) es)) 0 bad, n)))
          (cases_Bool (may f e))

      sound-free : may f e ≡ true → void e.value ≡ false → free void ρ count side len f e ≡ true
      sound-free ok nz = ⊎_elim (λ z. absurd (both_ways (void e.value) nz z)) (λ p. p) (or_cases (void e.value) _ ok)

      stated-symmetric : Symmetric f → Symmetric (stated void ρ f e)
      stated-symmetric sy a b =
          let i = rank_of ρ e.row in
          let j = rank_of ρ e.column in
          ⊎_elim
          (λ z. zero_at z a b ∙ sy a b ∙ sym (zero_at z b a))
          (λ nz.
          new-at nz a b
          ∙ ap (λ t. cond t e.value (f a b)) (same_swap i j a b)
          ∙ ap (λ x. cond (same i j b a) e.value x) (sy a b)
          ∙ sym (new-at nz b a))
          (cases_Bool (void e.value))

      stated-keeps : Symmetric f → may f e ≡ true → (a b : ℕ) → void (f a b) ≡ false → stated void ρ f e a b ≡ f a b
      stated-keeps sy ok a b h =
          ⊎_elim
          (λ z. zero_at z a b)
          (λ nz.
          let i = rank_of ρ e.row in
          let j = rank_of ρ e.column in
          let fr = free_void void ρ count side len f e (sound-free ok nz) in
          new-at nz a b
          ∙ ⊎_elim
          (λ s. absurd (both_ways (void (f a b)) h
          (⊎_elim
          (λ (u : (a ≡ i) × (b ≡ j)). ap (λ k. void (f k b)) u.0 ∙ ap (λ k. void (f i k)) u.1 ∙ fr)
          (λ (u : (a ≡ j) × (b ≡ i)). ap (λ k. void (f k b)) u.0 ∙ ap (λ k. void (f j k)) u.1 ∙ ap void (sy j i) ∙ fr)
          ((same_decides i j a b).0 s))))
          (λ d. cond-false (same i j a b) e.value (f a b) d)
          (cases_Bool (same i j a b)))
          (cases_Bool (void e.value))

    -- a cell that is not zero keeps its value
    keep : (f : ℕ → ℕ → X) (es : List (Element X)) → Symmetric f → (a b : ℕ) → void (f a b) ≡ false → all f es a b ≡ f a b
    keep f [] sy a b h = refl
    keep f (e ∷ es) sy a b h =
        ⊎_elim
        (λ ok.
        let st = stated-keeps f e es sy ok a b h in
        run_ok f e es ok a b ∙ keep (stated void ρ f e) es (stated-symmetric f e es sy) a b (ap void st ∙ h) ∙ st)
        (λ bad. run_bad f e es bad a b)
        (cases_Bool (may f e))

    others : (f : ℕ → ℕ → X) (es : List (Element X)) (a b : ℕ)
        → ((k : ℕ) (d : Element X) → k < length es → void (get_or es k d).value ≡ false → same (rank_of ρ (get_or es k d).row) (rank_of ρ (get_or es k d).column) a b ≡ false)
        → all f es a b ≡ f a b
    others f [] a b h = refl
    others f (e ∷ es) a b h =
        ⊎_elim
        (λ ok.
        run_ok f e es ok a b
        ∙ others (stated void ρ f e) es a b (λ k d l z. h (suc k) d (omega arith) z)
        ∙ ⊎_elim
        (λ z. zero_at f e es z a b)
        (λ nz. new-at f e es nz a b ∙ cond-false _ e.value (f a b) (h 0 e (omega arith) nz))
        (cases_Bool (void e.value)))
        (λ bad. run_bad f e es bad a b)
        (cases_Bool (may f e))

    each : (f : ℕ → ℕ → X) (es : List (Element X)) → Symmetric f → taken void ρ count side len f es ≡ length es → (k : ℕ) (d : Element X) → k < length es
        → void (get_or es k d).value ≡ false → all f es (rank_of ρ (get_or es k d).row) (rank_of ρ (get_or es k d).column) ≡ (get_or es k d).value
    each f [] sy n k d h nz = absurd (omega arith)
    each f (e ∷ es) sy n zero d h nz =
        let ok = (all_sound f e es n).0 in
        let i = rank_of ρ e.row in
        let j = rank_of ρ e.column in
        let st : stated void ρ f e i j ≡ e.value = new-at f e es nz i j ∙ cond-true (same i j i j) e.value (f i j) ((same_decides i j i j).1 (inl (refl, refl))) in
        run_ok f e es ok i j ∙ keep (stated void ρ f e) es (stated-symmetric f e es sy) i j (ap void st ∙ nz) ∙ st
    each f (e ∷ es) sy n (suc k) d h nz =
        let (ok, m) = all_sound f e es n in
        let i = rank_of ρ (get_or es k d).row in
        let j = rank_of ρ (get_or es k d).column in
        run_ok f e es ok i j ∙ each (stated void ρ f e) es (stated-symmetric f e es sy) m k d (omega arith) nz

    symmetric : (f : ℕ → ℕ → X) (es : List (Element X)) → Symmetric f → Symmetric (all f es)
    symmetric f [] sy a b = sy a b
    symmetric f (e ∷ es) sy a b =
        ⊎_elim
        (λ ok. run_ok f e es ok a b ∙ symmetric (stated void ρ f e) es (stated-symmetric f e es sy) a b ∙ sym (run_ok f e es ok b a))
        (λ bad. run_bad f e es bad a b ∙ sy a b ∙ sym (run_bad f e es bad b a))
        (cases_Bool (may f e))

    -- where all may be stated, those that are not zero have row and column within the count
    all_inside : (f : ℕ → ℕ → X) (es : List (Element X)) → taken void ρ count side len f es ≡ length es → (k : ℕ) (d : Element X) → k < length es
        → void (get_or es k d).value ≡ false → inside (min count (length ρ)) (get_or es k d).row (get_or es k d).column ≡ true
    all_inside f [] n k d h nz = absurd (omega arith)
    all_inside f (e ∷ es) n zero d h nz =
        (and_parts (inside (min count (length ρ)) e.row e.column) (on_side side e.row e.column)
        (and_parts (inside (min count (length ρ)) e.row e.column && on_side side e.row e.column) _ (sound-free f e es (all_sound f e es n).0 nz)).0).0
    all_inside f (e ∷ es) n (suc k) d h nz = all_inside (stated void ρ f e) es (all_sound f e es n).1 k d (omega arith) nz

  pub others_stay : OthersStay X void
  others_stay ρ count side len f es a b h = others ρ count side len f es a b h

  pub each_stands : EachStands X void
  each_stands ρ count side len f es sy n k d h nz = each ρ count side len f es sy n k d h nz

  pub by_index : ByIndex X void
  by_index ρ count side len f es sy inj n i j hi hj = record {
    found = λ k d h (nz, s).
        ⊎_elim
        (λ (u : (i ≡ (get_or es k d).row) × (j ≡ (get_or es k d).column)).
        ap (λ t. run void ρ count side len f es (rank_of ρ t) (rank_of ρ j)) u.0
        ∙ ap (λ t. run void ρ count side len f es (rank_of ρ (get_or es k d).row) (rank_of ρ t)) u.1
        ∙ each ρ count side len f es sy n k d h nz)
        (λ (u : (i ≡ (get_or es k d).column) × (j ≡ (get_or es k d).row)).
        symmetric ρ count side len f es sy (rank_of ρ i) (rank_of ρ j)
        ∙ ap (λ t. run void ρ count side len f es (rank_of ρ t) (rank_of ρ i)) u.1
        ∙ ap (λ t. run void ρ count side len f es (rank_of ρ (get_or es k d).row) (rank_of ρ t)) u.0
        ∙ each ρ count side len f es sy n k d h nz)
        ((same_decides (get_or es k d).row (get_or es k d).column i j).0 s);
    none = λ absent.
        others ρ count side len f es (rank_of ρ i) (rank_of ρ j)
        (λ k d h nz.
        let m = min count (length ρ) in
        let (p, q) = and_parts (counted m (get_or es k d).row) (counted m (get_or es k d).column) (all_inside ρ count side len f es n k d h nz) in
        renumbered m ρ inj (get_or es k d).row (get_or es k d).column i j p q hi hj
        ∙ ⊎_elim (λ s. absurd (absent k d h (nz, s))) (λ t. t) (cases_Bool (same (get_or es k d).row (get_or es k d).column i j)));
  }

-- ---- ranks

module _ (R : Type 0) (cmp : R → R → Ordering) (o : IsTotalOrder cmp) where
  told : (r : R) (xs : List R) (q : Result ℕ ℕ) → Tells cmp r xs q → is_ok q ≡ true → (result_unwrap_or q 0 < length xs) × (cmp (get_or xs (result_unwrap_or q 0) r) r ≡ Equal)
  told r xs (Ok k) t e = t
  told r xs (Err k) t e = absurd (both_ways false refl e)

  pub ranks_found : RanksFound R cmp
  ranks_found used rows h r k =
      let xs = used_rows used rows in
      let (s, t) = search_law cmp o r xs h in
      told r xs (sought cmp r xs) (subst (Tells cmp r xs) (sym s) t) k

  pub ranks_apart : RanksApart R cmp
  ranks_apart used rows h r s kr ks e =
      let xs = used_rows used rows in
      let (lt, p) = ranks_found used rows h r kr in
      let (ls, q) = ranks_found used rows h s ks in
      let y = get_or xs (rank_in cmp used rows r) r in
      let same : y ≡ get_or xs (rank_in cmp used rows s) s = get_or_default xs (rank_in cmp used rows r) r s lt ∙ ap (λ k. get_or xs k s) e in
      sym (o.congr y r s p) ∙ ap (λ t. cmp t s) same ∙ q

  -- each record of a list that the table has
  known_at : (used : ℕ) (rows rs : List R) (i : ℕ) (d : R) → all_known cmp used rows rs ≡ true → i < length rs → known cmp (get_or rs i d) used rows ≡ true
  known_at used rows [] i d k lt = absurd (omega arith)
  known_at used rows (r ∷ rs) zero d k lt = (and_parts (known cmp r used rows) (all_known cmp used rows rs) k).0
  known_at used rows (r ∷ rs) (suc i) d k lt = known_at used rows rs i d (and_parts (known cmp r used rows) (all_known cmp used rows rs) k).1 (omega arith)

  -- the rank of an index in a filled row
  filled_at : (f : R → ℕ) (rs : List R) (row : List ℕ) (d : R) (p : ℕ) → counted (length rs) p ≡ true
      → (p - 1 < length rs) × ((1 ≤ p) × (rank_of (map f rs ++ drop (length rs) row) p ≡ f (get_or rs (p - 1) d)))
  filled_at f rs row d p h =
      let (a, b) = and_parts (leb 1 p) (leb p (length rs)) h in
      let low : 1 ≤ p = leb-true 1 p a in
      let high : p ≤ length rs = leb-true p (length rs) b in
      let lt : p - 1 < length rs = omega arith in
      let m : length (map f rs) ≡ length rs = length-map rs f in
      (lt, (low, get_or_append_left (map f rs) (drop (length rs) row) 0 (p - 1) (omega arith) ∙ get_or-map f rs (p - 1) d 0 lt))

  pub fill_apart : FillApart R cmp
  fill_apart used rows h [] row k keys p q hp hq e =
      let (a, b) = and_parts (leb 1 p) (leb p 0) hp in
      absurd (omega (arith, leb-true 1 p a, leb-true p 0 b))
  fill_apart used rows h (r ∷ rs) row k keys p q hp hq e =
      let all = r ∷ rs in
      let (lp, (op, ep)) = filled_at (rank_in cmp used rows) (r ∷ rs) row r p hp in
      let (lq, (oq, eq)) = filled_at (rank_in cmp used rows) (r ∷ rs) row r q hq in
      let same = ranks_apart used rows h (get_or (r ∷ rs) (p - 1) r) (get_or (r ∷ rs) (q - 1) r) (known_at used rows (r ∷ rs) (p - 1) r k lp) (known_at used rows (r ∷ rs) (q - 1) r k lq) (sym ep ∙ e ∙ eq) in
      let one : p - 1 ≡ q - 1 = keys (p - 1) (q - 1) r lp lq same in
      omega arith
