-- In a list whose keys rise, halving finds the place of the ordered list. Assumes nothing.
use Rattle.std.proofs.Common.{◌≡◌, ℕ, zero, suc, ◌+◌, ◌-◌, ◌<◌, ◌≤◌, List, [], ◌∷◌, length, get_or, Ok, Err, Result, Ordering, Less, Equal, Greater, sym, refl, ap, ◌∙◌, ⊎_elim, arith}
use Rattle.std.proofs.lemmas.List.{get_or_default}
use Rattle.std.proofs.lemmas.Bool.{cases_lt}
use Rattle.tables.specs.Keys.{Rising, by3}
use Rattle.tables.specs.Lists.{place_from, place}
use Rattle.tables.specs.Rows.{middle, halving, sought}
use Rattle.tables.specs.Laws.{Tells, SearchLaw}
use Rattle.tables.proofs.Halves.{step, halving_more, halving-end}
use Rattle.std.specs.Cmp.{IsTotalOrder}
use Rattle.std.proofs.lemmas.Cmp.{alike_right}
use Rattle.tables.proofs.Orders.{turned, turned_back}

module _ {R : Type 0} (cmp : R → R → Ordering) (o : IsTotalOrder cmp) where
  -- the first stands before every other
  pub before_all : (x : R) (xs : List R) (k : ℕ) (d : R) → Rising cmp (x ∷ xs) → k < length xs → cmp x (get_or xs k d) ≡ Less
  before_all x [] k d h lt = absurd (omega arith)
  before_all x (y ∷ ys) zero d (a, h) lt = a
  before_all x (y ∷ ys) (suc k) d (a, h) lt = o.trans x y (get_or ys k d) a (before_all y ys k d h (omega arith))

  -- an earlier one stands before a later one
  pub earlier : (xs : List R) (i k : ℕ) (d : R) → Rising cmp xs → i < k → k < length xs → cmp (get_or xs i d) (get_or xs k d) ≡ Less
  earlier [] i k d h lt le = absurd (omega arith)
  earlier (x ∷ xs) zero zero d h lt le = absurd (omega arith)
  earlier (x ∷ xs) zero (suc k) d h lt le = before_all x xs k d h (omega arith)
  earlier (x ∷ xs) (suc i) zero d h lt le = absurd (omega arith)
  earlier (x ∷ xs) (suc i) (suc k) d h lt le = earlier xs i k d h.1 (omega arith) (omega arith)

  pub found_at : (r : R) (xs : List R) (n i : ℕ) (d : R) → Rising cmp xs → n < length xs → cmp (get_or xs n d) r ≡ Equal → place_from cmp r i xs ≡ Ok (i + n)
  found_at r [] n i d h lt e = absurd (omega arith)
  found_at r (x ∷ xs) zero i d h lt e =
      ap (λ q. by3 q (place_from cmp r (i + 1) xs) (Ok i) (Err i)) e ∙ ap Ok (omega arith)
  found_at r (x ∷ xs) (suc n) i d h lt e =
      let less : cmp x r ≡ Less = sym (alike_right o (get_or xs n d) r x e) ∙ before_all x xs n d h (omega arith) in
      ap (λ q. by3 q (place_from cmp r (i + 1) xs) (Ok i) (Err i)) less
      ∙ found_at r xs n (i + 1) d h.1 (omega arith) e
      ∙ ap Ok (omega arith)

  first_less : (r x : R) (xs : List R) (n : ℕ) → Rising cmp (x ∷ xs) → n ≤ length xs → ((k : ℕ) (d : R) → k + 1 ≡ suc n → cmp (get_or (x ∷ xs) k d) r ≡ Less) → cmp x r ≡ Less
  first_less r x xs zero h le f = f 0 x (omega arith)
  first_less r x xs (suc n) h le f = o.trans x (get_or xs n x) r (before_all x xs n x h (omega arith)) (f (suc n) x (omega arith))

  pub gap_at : (r : R) (xs : List R) (n i : ℕ) → Rising cmp xs → n ≤ length xs → ((k : ℕ) (d : R) → k + 1 ≡ n → cmp (get_or xs k d) r ≡ Less)
      → ((d : R) → n < length xs → cmp (get_or xs n d) r ≡ Greater) → place_from cmp r i xs ≡ Err (i + n)
  gap_at r [] zero i h le f g = ap Err (omega arith)
  gap_at r [] (suc n) i h le f g = absurd (omega arith)
  gap_at r (x ∷ xs) zero i h le f g = ap (λ q. by3 q (place_from cmp r (i + 1) xs) (Ok i) (Err i)) (g x (omega arith)) ∙ ap Err (omega arith)
  gap_at r (x ∷ xs) (suc n) i h le f g =
      ap (λ q. by3 q (place_from cmp r (i + 1) xs) (Ok i) (Err i)) (first_less r x xs n h (omega arith) f)
      ∙ gap_at r xs n (i + 1) h.1 (omega arith) (λ k d e. f (suc k) d (omega arith)) (λ d lt. g d (omega arith))
      ∙ ap Err (omega arith)

  module _ (r : R) (xs : List R) (rising : Rising cmp xs) where
    -- what is known between low and high
    abbrev Left : ℕ → Type 0
    Left low = (k : ℕ) (d : R) → k + 1 ≡ low → cmp (get_or xs k d) r ≡ Less

    abbrev Right : ℕ → Type 0
    Right high = (d : R) → high < length xs → cmp (get_or xs high d) r ≡ Greater

    -- the comparison at the middle, at whatever default
    at-middle : (m : ℕ) (q : Ordering) → m < length xs → cmp (get_or xs m r) r ≡ q → (d : R) → cmp (get_or xs m d) r ≡ q
    at-middle m q lt e d = ap (λ y. cmp y r) (get_or_default xs m d r lt) ∙ e

    stepped : (q : Ordering) (n low high : ℕ) → low < high → high ≤ length xs → cmp (get_or xs (middle low high) r) r ≡ q
        → (q ≡ Less → halving cmp r xs n (middle low high + 1) high ≡ place cmp r xs)
        → (q ≡ Greater → halving cmp r xs n low (middle low high) ≡ place cmp r xs)
        → step cmp r xs q n n low high ≡ place cmp r xs
    stepped Less n low high lt le e f g = f refl
    stepped Equal n low high lt le e f g = sym (found_at r xs (middle low high) 0 r rising (omega arith) e ∙ ap Ok (omega arith))
    stepped Greater n low high lt le e f g = g refl

    ended : (n low high : ℕ) → high ≤ low → low ≤ high → high ≤ length xs → Left low → Right high → halving cmp r xs n low high ≡ place cmp r xs
    ended n low high ge le lh f g =
        let e : high ≡ low = omega arith in
        halving-end cmp r xs n low high ge
        ∙ sym (gap_at r xs low 0 rising (omega arith) f (λ d lt. ap (λ k. cmp (get_or xs k d) r) (sym e) ∙ g d (omega arith)) ∙ ap Err (omega arith))

    halved : (n low high : ℕ) → high - low ≤ n → low ≤ high → high ≤ length xs → Left low → Right high → halving cmp r xs n low high ≡ place cmp r xs
    halved zero low high p le lh f g = ended zero low high (omega arith) le lh f g
    halved (suc n) low high p le lh f g =
        ⊎_elim
        (λ lt.
        let m = middle low high in
        let lm : m < length xs = omega arith in
        halving_more cmp r xs n low high lt
        ∙ stepped (cmp (get_or xs m r) r) n low high lt lh refl
        (λ e. halved n (m + 1) high (omega arith) (omega arith) lh
        (λ k d s. let km : k ≡ m = omega arith in ap (λ i. cmp (get_or xs i d) r) km ∙ at-middle m Less lm e d) g)
        (λ e. halved n low m (omega arith) (omega arith) (omega arith) f (λ d l. at-middle m Greater lm e d)))
        (λ ge. ended (suc n) low high ge le lh f g)
        (cases_lt low high)

    pub sought-place : sought cmp r xs ≡ place cmp r xs
    sought-place = halved (length xs) 0 (length xs) (omega arith) (omega arith) (omega arith) (λ k d e. absurd (omega arith)) (λ d lt. absurd (omega arith))

  -- ---- the place tells where the key stands

  abbrev TellsFrom : R → List R → ℕ → Result ℕ ℕ → Type 0
  TellsFrom r xs i (Ok k) = (j : ℕ) × ((k ≡ i + j) × ((j < length xs) × (cmp (get_or xs j r) r ≡ Equal)))
  TellsFrom r xs i (Err k) =
      (j : ℕ) × ((k ≡ i + j) × ((j ≤ length xs) × (((n : ℕ) → n < j → cmp (get_or xs n r) r ≡ Less) × ((n : ℕ) → j ≤ n → n < length xs → cmp (get_or xs n r) r ≡ Greater))))

  later : (r x : R) (xs : List R) (i : ℕ) (p : Result ℕ ℕ) → cmp x r ≡ Less → TellsFrom r xs (i + 1) p → TellsFrom r (x ∷ xs) i p
  later r x xs i (Ok k) e (j, (kj, (lt, h))) = (suc j, (omega arith, (omega arith, h)))
  later r x xs i (Err k) e (j, (kj, (le, (f, g)))) = (suc j, (omega arith, (omega arith, (before, after))))
    where
      before : (n : ℕ) → n < suc j → cmp (get_or (x ∷ xs) n r) r ≡ Less
      before zero lt = e
      before (suc n) lt = f n (omega arith)

      after : (n : ℕ) → suc j ≤ n → n < suc (length xs) → cmp (get_or (x ∷ xs) n r) r ≡ Greater
      after zero h lt = absurd (omega arith)
      after (suc n) h lt = g n (omega arith) (omega arith)

  -- a first record past r's key: so are the others
  all_greater : (r x : R) (xs : List R) → Rising cmp (x ∷ xs) → cmp x r ≡ Greater → (n : ℕ) → n < suc (length xs) → cmp (get_or (x ∷ xs) n r) r ≡ Greater
  all_greater r x xs h e zero lt = e
  all_greater r x xs h e (suc n) lt = turned o r (get_or xs n r) (o.trans r x (get_or xs n r) (turned_back o x r e) (before_all x xs n r h (omega arith)))

  by_answer : (q : Ordering) (r x : R) (xs : List R) (i : ℕ) (p : Result ℕ ℕ) → Rising cmp (x ∷ xs) → cmp x r ≡ q → TellsFrom r xs (i + 1) p → TellsFrom r (x ∷ xs) i (by3 q p (Ok i) (Err i))
  by_answer Less r x xs i p h e t = later r x xs i p e t
  by_answer Equal r x xs i p h e t = (0, (omega arith, (omega arith, e)))
  by_answer Greater r x xs i p h e t = (0, (omega arith, (omega arith, ((λ n lt. absurd (omega arith)), (λ n le lt. all_greater r x xs h e n lt)))))

  tells_from : (r : R) (xs : List R) (i : ℕ) → Rising cmp xs → TellsFrom r xs i (place_from cmp r i xs)
  tells_from r [] i h = (0, (omega arith, (omega arith, ((λ n lt. absurd (omega arith)), (λ n le lt. absurd (omega arith))))))
  tells_from r (x ∷ xs) i h = by_answer (cmp x r) r x xs i (place_from cmp r (i + 1) xs) h refl (tells_from r xs (i + 1) h.1)

  tells_all : (r : R) (xs : List R) (p : Result ℕ ℕ) → TellsFrom r xs 0 p → Tells cmp r xs p
  tells_all r xs (Ok k) (j, (kj, (lt, h))) = let e : j ≡ k = omega arith in (omega arith, ap (λ n. cmp (get_or xs n r) r) (sym e) ∙ h)
  tells_all r xs (Err k) (j, (kj, (le, (f, g)))) = (omega arith, (λ n lt. f n (omega arith)), (λ n h lt. g n (omega arith) lt))

  pub search_law : SearchLaw R cmp
  search_law r xs h = (sought-place r xs h, tells_all r xs (place cmp r xs) (tells_from r xs 0 h))
