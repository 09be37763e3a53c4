-- Ranks in lists whose keys rise: where a key stands, and what stands at each rank after a put or a drop. Assumes nothing.
use Rattle.std.specs.Cmp.{IsTotalOrder}
use Rattle.std.proofs.Common.{◌≡◌, ℕ, suc, ◌+◌, ◌-◌, ◌<◌, ◌≤◌, Bool, true, false, cond, eqb, ltb, ◌⊎◌, List, [], ◌∷◌, length, get_or, set, Ordering, Less, Equal, Greater, sym, refl, ap, ◌∙◌, subst, inl, inr, ⊎_elim, arith, Err, Ok, Result}
use Rattle.codes.specs.Order.{is_equal}
use Rattle.model.proofs.Tables.{holds_among}
use Rattle.std.proofs.lemmas.List.Edits.{get_or-insert_above, get_or-insert_at, get_or-insert_below, get_or-remove_above, get_or-remove_below, length-insert, length-remove}
use Rattle.std.proofs.lemmas.List.{get_or_default, get_or-set_other, get_or-set_same, length-set}
use Rattle.std.proofs.lemmas.Bool.{both_ways, cases_Bool, cases_eq, cases_lt, cond-false, cond-true, eq-eqb, le-ltb, lt-ltb, ne_eqb}
use Rattle.std.specs.List.{insert, remove}
use Rattle.tables.proofs.Edits.{drop_law}
use Rattle.std.proofs.lemmas.Cmp.{alike_right, tied_itself}
use Rattle.tables.proofs.Places.{found_at, search_law}
use Rattle.tables.specs.Keys.{Rising, by3}
use Rattle.tables.specs.Laws.{Tells}
use Rattle.tables.specs.Lists.{holds, place, place_from, put, without}
use Rattle.triangle.specs.Triangle.{jump, skip}

pub cases_place : (q : Result ℕ ℕ) → ((k : ℕ) × (q ≡ Ok k)) ⊎ ((k : ℕ) × (q ≡ Err k))
cases_place (Ok k) = inl (k, refl)
cases_place (Err k) = inr (k, refl)

-- ---- what a place says of the list: whether it holds the key, and the list after a put and after a drop

abbrev Says : {R : Type 0} → List R → R → ℕ → Result ℕ ℕ → Bool → List R → List R → Type 0
Says xs r i (Ok k) h p w = (j : ℕ) × ((k ≡ i + j) × ((j < length xs) × ((h ≡ true) × ((p ≡ set xs j r) × (w ≡ remove xs j)))))
Says xs r i (Err k) h p w = (j : ℕ) × ((k ≡ i + j) × ((j ≤ length xs) × ((h ≡ false) × ((p ≡ insert xs j r) × (w ≡ xs)))))

says_later : {R : Type 0} (xs : List R) (r x : R) (i : ℕ) (q : Result ℕ ℕ) (h : Bool) (p w : List R) → Says xs r (i + 1) q h p w → Says (x ∷ xs) r i q h (x ∷ p) (x ∷ w)
says_later xs r x i (Ok k) h p w (j, (e, (lt, (t, (a, b))))) = (suc j, (omega arith, (omega arith, (t, (ap (λ l. x ∷ l) a, ap (λ l. x ∷ l) b)))))
says_later xs r x i (Err k) h p w (j, (e, (lt, (t, (a, b))))) = (suc j, (omega arith, (omega arith, (t, (ap (λ l. x ∷ l) a, ap (λ l. x ∷ l) b)))))

says_by : {R : Type 0} (o : Ordering) (xs : List R) (r x : R) (i : ℕ) (q : Result ℕ ℕ) (h : Bool) (p w : List R) → Says xs r (i + 1) q h p w
    → Says (x ∷ xs) r i (by3 o q (Ok i) (Err i)) (by3 o h true false) (by3 o (x ∷ p) (r ∷ xs) (r ∷ x ∷ xs)) (by3 o (x ∷ w) xs (x ∷ xs))
says_by Less xs r x i q h p w s = says_later xs r x i q h p w s
says_by Equal xs r x i q h p w s = (0, (omega arith, (omega arith, (refl, (refl, refl)))))
says_by Greater xs r x i q h p w s = (0, (omega arith, (omega arith, (refl, (refl, refl)))))

-- the record found at rank k
pub record FoundAt {R : Type 0} (cmp : R → R → Ordering) (r : R) (xs : List R) (k : ℕ) : Type 0 where
  pub within : k < length xs
  pub held : holds cmp r xs ≡ true
  pub putting : put cmp r xs ≡ set xs k r
  pub dropping : without cmp r xs ≡ remove xs k

-- no record, and rank k for a new one
pub record GapAt {R : Type 0} (cmp : R → R → Ordering) (r : R) (xs : List R) (k : ℕ) : Type 0 where
  pub within : k ≤ length xs
  pub held : holds cmp r xs ≡ false
  pub putting : put cmp r xs ≡ insert xs k r
  pub dropping : without cmp r xs ≡ xs

module _ {R : Type 0} (cmp : R → R → Ordering) where
  says : (r : R) (xs : List R) (i : ℕ) → Says xs r i (place_from cmp r i xs) (holds cmp r xs) (put cmp r xs) (without cmp r xs)
  says r [] i = (0, (omega arith, (omega arith, (refl, (refl, refl)))))
  says r (x ∷ xs) i = says_by (cmp x r) xs r x i (place_from cmp r (i + 1) xs) (holds cmp r xs) (put cmp r xs) (without cmp r xs) (says r xs (i + 1))

  pub found_says : (r : R) (xs : List R) (k : ℕ) → place cmp r xs ≡ Ok k → FoundAt cmp r xs k
  found_says r xs k e =
      let (j, (s, (lt, (t, (a, b))))) = subst (λ (q : Result ℕ ℕ). Says xs r 0 q (holds cmp r xs) (put cmp r xs) (without cmp r xs)) e (says r xs 0) in
      let f : j ≡ k = omega arith in
      record { within = omega arith; held = t; putting = a ∙ ap (λ n. set xs n r) f; dropping = b ∙ ap (remove xs) f }

  pub gap_says : (r : R) (xs : List R) (k : ℕ) → place cmp r xs ≡ Err k → GapAt cmp r xs k
  gap_says r xs k e =
      let (j, (s, (le, (t, (a, b))))) = subst (λ (q : Result ℕ ℕ). Says xs r 0 q (holds cmp r xs) (put cmp r xs) (without cmp r xs)) e (says r xs 0) in
      let f : j ≡ k = omega arith in
      record { within = omega arith; held = t; putting = a ∙ ap (λ n. insert xs n r) f; dropping = b }

  pub rank_held : (r : R) (xs : List R) → holds cmp r xs ≡ true → (k : ℕ) × (place cmp r xs ≡ Ok k)
  rank_held r xs h =
      ⊎_elim
      (λ f. f)
      (λ (g : (k : ℕ) × (place cmp r xs ≡ Err k)). absurd (both_ways (holds cmp r xs) (gap_says r xs g.0 g.1).held h))
      (cases_place (place cmp r xs))

  -- records that compare alike with all others have one place
  place_from_alike : (q r : R) → ((y : R) → cmp y q ≡ cmp y r) → (i : ℕ) (xs : List R) → place_from cmp q i xs ≡ place_from cmp r i xs
  place_from_alike q r h i [] = refl
  place_from_alike q r h i (x ∷ xs) =
      ap (λ c. by3 c (place_from cmp q (i + 1) xs) (Ok i) (Err i)) (h x) ∙ ap (λ t. by3 (cmp x r) t (Ok i) (Err i)) (place_from_alike q r h (i + 1) xs)

  pub place-alike : (q r : R) → ((y : R) → cmp y q ≡ cmp y r) → (xs : List R) → place cmp q xs ≡ place cmp r xs
  place-alike q r h xs = place_from_alike q r h 0 xs

  -- ---- lengths, and what stands at each rank then

  module _ (r : R) (xs : List R) (k : ℕ) (at : place cmp r xs ≡ Ok k) where
    pub length_replaced : length (put cmp r xs) ≡ length xs
    length_replaced = ap length (found_says r xs k at).putting ∙ length-set xs k r

    pub replaced_at : (i : ℕ) (d : R) → get_or (put cmp r xs) i d ≡ cond (eqb i k) r (get_or xs i d)
    replaced_at i d =
        let f = found_says r xs k at in
        ap (λ l. get_or l i d) f.putting
        ∙ ⊎_elim
        (λ (e : i ≡ k). ap (λ n. get_or (set xs k r) n d) e ∙ get_or-set_same xs k r d f.within ∙ sym (cond-true (eqb i k) r (get_or xs i d) (eq-eqb i k e)))
        (λ n. get_or-set_other xs k i r d n ∙ sym (cond-false (eqb i k) r (get_or xs i d) (ne_eqb i k n)))
        (cases_eq i k)

    pub length_dropped : length (without cmp r xs) + 1 ≡ length xs
    length_dropped = let f = found_says r xs k at in ap (λ l. length l + 1) f.dropping ∙ length-remove xs k f.within

    -- those from rank k on move one rank down
    pub dropped_at : (i : ℕ) (d : R) → get_or (without cmp r xs) i d ≡ get_or xs (jump k i) d
    dropped_at i d =
        let f = found_says r xs k at in
        ap (λ l. get_or l i d) f.dropping
        ∙ ⊎_elim
        (λ lt. get_or-remove_below xs k d i lt f.within ∙ ap (λ n. get_or xs n d) (sym (cond-true (ltb i k) i (i + 1) (lt-ltb i k lt))))
        (λ ge. get_or-remove_above xs k d i ge f.within ∙ ap (λ n. get_or xs n d) (sym (cond-false (ltb i k) i (i + 1) (le-ltb i k ge))))
        (cases_lt i k)

  module _ (r : R) (xs : List R) (k : ℕ) (at : place cmp r xs ≡ Err k) where
    pub length_added : length (put cmp r xs) ≡ length xs + 1
    length_added = let g = gap_says r xs k at in ap length g.putting ∙ length-insert xs k r g.within

    -- those from rank k on move one rank up
    pub added_at : (i : ℕ) (d : R) → get_or (put cmp r xs) i d ≡ cond (eqb i k) r (get_or xs (skip k i) d)
    added_at i d =
        let g = gap_says r xs k at in
        ap (λ l. get_or l i d) g.putting
        ∙ ⊎_elim
        (λ (e : i ≡ k). ap (λ n. get_or (insert xs k r) n d) e ∙ get_or-insert_at xs k r d g.within ∙ sym (cond-true (eqb i k) r (get_or xs (skip k i) d) (eq-eqb i k e)))
        (λ n.
        let no = cond-false (eqb i k) r (get_or xs (skip k i) d) (ne_eqb i k n) in
        ⊎_elim
        (λ lt. get_or-insert_below xs k r d i lt g.within ∙ ap (λ m. get_or xs m d) (sym (cond-true (ltb i k) i (i - 1) (lt-ltb i k lt))) ∙ sym no)
        (λ ge.
        let up : i ≡ i - 1 + 1 = omega arith in
        ap (λ m. get_or (insert xs k r) m d) up
        ∙ get_or-insert_above xs k r d (i - 1) (omega arith) g.within
        ∙ ap (λ m. get_or xs m d) (sym (cond-false (ltb i k) i (i - 1) (le-ltb i k ge)))
        ∙ sym no)
        (cases_lt i k))
        (cases_eq i k)

-- ---- by the order of the keys

not_equal : (c : Ordering) → (c ≡ Equal → ⊥) → is_equal c ≡ false
not_equal Less n = refl
not_equal Equal n = absurd (n refl)
not_equal Greater n = refl

pub found_once : (i k : ℕ) → ◌≡◌ {A = Result ℕ ℕ} (Ok i) (Ok k) → i ≡ k
found_once i k e = cc

module _ {R : Type 0} (cmp : R → R → Ordering) (o : IsTotalOrder cmp) where
  module _ (xs : List R) (rising : Rising cmp xs) where
    -- a record of the key of what stands at rank k is found there
    pub placed_at : (r : R) (k : ℕ) (d : R) → k < length xs → cmp (get_or xs k d) r ≡ Equal → place cmp r xs ≡ Ok k
    placed_at r k d lt e = found_at cmp o r xs k 0 d rising lt e ∙ ap Ok (omega arith)

    pub placed_own : (k : ℕ) (d : R) → k < length xs → place cmp (get_or xs k d) xs ≡ Ok k
    placed_own k d lt = placed_at (get_or xs k d) k d lt (tied_itself o (get_or xs k d))

    -- what is found has the key
    pub found-key : (r : R) (k : ℕ) (d : R) → place cmp r xs ≡ Ok k → cmp (get_or xs k d) r ≡ Equal
    found-key r k d e =
        let (lt, q) = subst (Tells cmp r xs) e (search_law cmp o r xs rising).1 in
        ap (λ x. cmp x r) (get_or_default xs k d r lt) ∙ q

    -- a rank has the key of what is found at rank k only if it is k
    pub key-at : (r : R) (k i : ℕ) (d : R) → place cmp r xs ≡ Ok k → i < length xs → is_equal (cmp (get_or xs i d) r) ≡ eqb i k
    key-at r k i d e lt =
        ⊎_elim
        (λ (s : i ≡ k). ap is_equal (ap (λ n. cmp (get_or xs n d) r) s ∙ found-key r k d e) ∙ sym (eq-eqb i k s))
        (λ n. not_equal (cmp (get_or xs i d) r) (λ q. n (found_once i k (sym (placed_at r i d lt q) ∙ e))) ∙ sym (ne_eqb i k n))
        (cases_eq i k)

    -- a drop takes the key away
    pub gone : (p r : R) → cmp p r ≡ Equal → holds cmp p (without cmp r xs) ≡ false
    gone p r e =
        let law = drop_law cmp o r xs rising in
        ⊎_elim
        (λ (h : holds cmp p (without cmp r xs) ≡ true).
        let (x, m, q) = holds_among cmp o p (without cmp r xs) law.rises h in
        absurd ((law.only x m).1 (sym (alike_right o p r x e) ∙ q)))
        (λ h. h)
        (cases_Bool (holds cmp p (without cmp r xs)))
