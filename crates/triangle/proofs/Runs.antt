-- Copies of runs of places, and what they do to rows. Assumes nothing.
use Rattle.std.proofs.Common.{◌≡◌, ℕ, ◌+◌, ◌-◌, ◌<◌, ◌≤◌, true, false, cond, not, ◌&&◌, eqb, ltb, leb, ◌≢◌, ◌⊎◌, List, [], ◌++◌, length, get_or, take, drop, replicate, sym, refl, ap, ◌∙◌, inl, inr, ⊎_elim, arith}
use borrow.Rule.Slice.PartMut.{put_mid}
use Rattle.std.proofs.lemmas.List.{append_assoc, append-nil, get_or_append_left, get_or-append_right, get_or-drop, get_or-replicate, get_or-take, length-append, length-drop, length-replicate, length-take-le, take-append-drop}
use Rattle.std.proofs.lemmas.Bool.{and_from, and_right, cases_lt, cases_eq, cases_order, cond-true, cond-false, eq-eqb, ne_eqb, le-leb, lt-leb, lt-ltb, le-ltb}
use Rattle.triangle.specs.Triangle.{tri, skip, jump}
use Rattle.triangle.proofs.Tri.{tri_more, tri-rows}

-- the places f after a copy of count places from `from` on to `to` on
abbrev copied : {X : Type 0} → ℕ → ℕ → ℕ → (ℕ → X) → ℕ → X
copied from to count f k = cond (leb to k && ltb k (to + count)) (f (k - to + from)) (f k)

-- a place outside the target, and one inside
pub copied_out : {X : Type 0} (from to count : ℕ) (f : ℕ → X) (k : ℕ) → (k < to) ⊎ (to + count ≤ k) → copied from to count f k ≡ f k
copied_out from to count f k (inl lt) =
    let t : leb to k ≡ false = lt-leb to k lt in simp t refl
copied_out from to count f k (inr ge) =
    let t : ltb k (to + count) ≡ false = le-ltb k (to + count) ge in
    cond-false (leb to k && ltb k (to + count)) (f (k - to + from)) (f k) (and_right (leb to k) (ltb k (to + count)) t)

pub copied_in : {X : Type 0} (from to count : ℕ) (f : ℕ → X) (k m : ℕ) → to ≤ k → k < to + count → k - to + from ≡ m → copied from to count f k ≡ f m
copied_in from to count f k m le lt e =
    cond-true (leb to k && ltb k (to + count)) (f (k - to + from)) (f k) (and_from (leb to k) (ltb k (to + count)) (le-leb to k le) (lt-ltb k (to + count) lt)) ∙ ap f e

-- a place of a list a part of which was written: before the part, in it, and past it
module _ {X : Type 0} (z : X) (xs part : List X) (s n : ℕ) (fits : s + n ≤ length xs) (long : length part ≡ n) where
  front : length (take s xs) ≡ s
  front = length-take-le s xs (omega arith)

  pub read_before : (k : ℕ) → k < s → get_or (put_mid s n xs part) k z ≡ get_or xs k z
  read_before k lt =
      let e = front in
      get_or_append_left (take s xs) (part ++ drop n (drop s xs)) z k (omega arith) ∙ get_or-take s xs k z lt

  pub read_inside : (k : ℕ) → s ≤ k → k < s + n → get_or (put_mid s n xs part) k z ≡ get_or part (k - s) z
  read_inside k le lt =
      get_or-append_right (take s xs) (part ++ drop n (drop s xs)) s k z front le
      ∙ get_or_append_left part (drop n (drop s xs)) z (k - s) (omega arith)

  pub read_past : (k : ℕ) → s + n ≤ k → get_or (put_mid s n xs part) k z ≡ get_or xs k z
  read_past k le =
      get_or-append_right (take s xs) (part ++ drop n (drop s xs)) s k z front (omega arith)
      ∙ get_or-append_right part (drop n (drop s xs)) n (k - s) z long (omega arith)
      ∙ get_or-drop n (drop s xs) (k - s - n) z
      ∙ get_or-drop s xs (n + (k - s - n)) z
      ∙ ap (λ m. get_or xs m z) (omega arith)

  pub length-written : length (put_mid s n xs part) ≡ length xs
  length-written =
      let e = front in
      let f : length (drop n (drop s xs)) ≡ length xs - s - n = length-drop n (drop s xs) ∙ ap (λ m. m - n) (length-drop s xs) in
      length-append (take s xs) (part ++ drop n (drop s xs)) ∙ omega (arith, length-append part (drop n (drop s xs)))

-- a part of the middle written, with what stands from another place on
pub copied_part : {X : Type 0} (z : X) (front xs back part : List X) (s n from : ℕ) → s + n ≤ length xs → length part ≡ n
    → ((j : ℕ) → j < n → get_or part j z ≡ get_or (front ++ (xs ++ back)) (from + j) z)
    → (k : ℕ) → get_or (front ++ (put_mid s n xs part ++ back)) k z ≡ copied from (length front + s) n (λ p. get_or (front ++ (xs ++ back)) p z) k
copied_part z front xs back part s n from fits long same k =
    let to = length front + s in
    let ys = put_mid s n xs part in
    let f = λ (p : ℕ). get_or (front ++ (xs ++ back)) p z in
    let size : length ys ≡ length xs = length-written z xs part s n fits long in
    ⊎_elim
    (λ lt.
    get_or_append_left front (ys ++ back) z k lt
    ∙ sym (get_or_append_left front (xs ++ back) z k lt)
    ∙ sym (copied_out from to n f k (inl (omega arith))))
    (λ ge.
    let m = k - length front in
    let now : get_or (front ++ (ys ++ back)) k z ≡ get_or (ys ++ back) m z = get_or-append_right front (ys ++ back) (length front) k z refl ge in
    let was : get_or (front ++ (xs ++ back)) k z ≡ get_or (xs ++ back) m z = get_or-append_right front (xs ++ back) (length front) k z refl ge in
    ⊎_elim
    (λ within.
    let now' : get_or (ys ++ back) m z ≡ get_or ys m z = get_or_append_left ys back z m (omega arith) in
    let was' : get_or (xs ++ back) m z ≡ get_or xs m z = get_or_append_left xs back z m within in
    ⊎_elim
    (λ lt. now ∙ now' ∙ read_before z xs part s n fits long m lt ∙ sym (was ∙ was') ∙ sym (copied_out from to n f k (inl (omega arith))))
    (λ le. ⊎_elim
    (λ lt.
    now ∙ now' ∙ read_inside z xs part s n fits long m le lt ∙ same (m - s) (omega arith)
    ∙ sym (copied_in from to n f k (from + (m - s)) (omega arith) (omega arith) (omega arith)))
    (λ past. now ∙ now' ∙ read_past z xs part s n fits long m past ∙ sym (was ∙ was') ∙ sym (copied_out from to n f k (inr (omega arith))))
    (cases_lt m (s + n)))
    (cases_lt m s))
    (λ out.
    now ∙ get_or-append_right ys back (length xs) m z size out
    ∙ sym (was ∙ get_or-append_right xs back (length xs) m z refl out)
    ∙ sym (copied_out from to n f k (inr (omega arith))))
    (cases_lt m (length xs)))
    (cases_lt k (length front))

-- a place in another row than i lies outside row i
outside : (a b i : ℕ) → b ≤ a → a ≢ i → (tri a + b < tri i) ⊎ (tri (i + 1) ≤ tri a + b)
outside a b i h ne =
    ⊎_elim
    (λ lt. inl (omega (arith, tri-rows a i lt)))
    (λ ge. inr (omega (arith, tri-rows i a (omega arith), tri_more i)))
    (cases_lt a i)

-- n places from the place `at` on become z
pub filled_row : {X : Type 0} (z : X) (xs ys : List X) (at n r : ℕ) → at ≡ tri r → n ≡ r + 1 → at + n ≤ length xs → ys ≡ replicate n z
    → (a b : ℕ) → b ≤ a → get_or (put_mid at n xs ys) (tri a + b) z ≡ cond (eqb a r) z (get_or xs (tri a + b) z)
filled_row z xs ys at n r ea en fits is a b le =
    let k = tri a + b in
    let t = tri_more r in
    let long : length ys ≡ n = ap length is ∙ length-replicate n z in
    ⊎_elim
    (λ e.
    let here : k ≡ at + b = omega (arith, ap tri e) in
    read_inside z xs ys at n fits long k (omega arith) (omega arith)
    ∙ ap (λ l. get_or l (k - at) z) is
    ∙ get_or-replicate n (k - at) z z (omega arith)
    ∙ sym (cond-true (eqb a r) z _ (eq-eqb a r e)))
    (λ ne.
    ⊎_elim
    (λ lt. read_before z xs ys at n fits long k (omega arith))
    (λ ge. read_past z xs ys at n fits long k (omega arith))
    (outside a b r le ne)
    ∙ sym (cond-false (eqb a r) z _ (ne_eqb a r ne)))
    (cases_eq a r)

-- row i in two runs into row i + 1, passing over column r
pub lift_runs : {X : Type 0} (f g h : ℕ → X) (i r from to : ℕ) → from ≡ tri i → to ≡ from + i + 1 → r ≤ i
    → ((k : ℕ) → g k ≡ copied from to r f k)
    → ((k : ℕ) → h k ≡ copied (from + r) (to + r + 1) (i + 1 - r) g k)
    → (a b : ℕ) → b ≤ a → h (tri a + b) ≡ cond (eqb a (i + 1) && not (eqb b r)) (f (tri i + skip r b)) (f (tri a + b))
lift_runs f g h i r from to ef et hr one two a b le =
    let k = tri a + b in
    let t = tri_more i in
    let u = tri_more (i + 1) in
    ⊎_elim
    (λ e.
    let at : k ≡ to + b = omega (arith, ap tri e) in
    let p : eqb a (i + 1) ≡ true = eq-eqb a (i + 1) e in
    ⊎_elim
    (λ eb.
    let q : eqb b r ≡ true = eq-eqb b r eb in
    simp (p, q) (two k ∙ copied_out (from + r) (to + r + 1) (i + 1 - r) g k (inl (omega arith)) ∙ one k ∙ copied_out from to r f k (inr (omega arith))))
    (⊎_elim
    (λ lt.
    let q : eqb b r ≡ false = ne_eqb b r (λ eb. omega arith) in
    let s : skip r b ≡ b = cond-true (ltb b r) b (b - 1) (lt-ltb b r lt) in
    let m : k - to + from ≡ tri i + skip r b = omega arith in
    simp (p, q) (two k ∙ copied_out (from + r) (to + r + 1) (i + 1 - r) g k (inl (omega arith)) ∙ one k ∙ copied_in from to r f k (tri i + skip r b) (omega arith) (omega arith) m))
    (λ gt.
    let q : eqb b r ≡ false = ne_eqb b r (λ eb. omega arith) in
    let s : skip r b ≡ b - 1 = cond-false (ltb b r) b (b - 1) (le-ltb b r (omega arith)) in
    let m : k - (to + r + 1) + (from + r) ≡ tri i + skip r b = omega arith in
    simp (p, q)
    (two k
    ∙ copied_in (from + r) (to + r + 1) (i + 1 - r) g k (tri i + skip r b) (omega arith) (omega arith) m
    ∙ one (tri i + skip r b)
    ∙ copied_out from to r f (tri i + skip r b) (inl (omega arith)))))
    (cases_order b r))
    (λ ne.
    let o = outside a b (i + 1) le ne in
    let p : eqb a (i + 1) ≡ false = ne_eqb a (i + 1) ne in
    simp p
    (two k
    ∙ copied_out (from + r) (to + r + 1) (i + 1 - r) g k (⊎_elim (λ lt. inl (omega arith)) (λ ge. inr (omega arith)) o)
    ∙ one k
    ∙ copied_out from to r f k (⊎_elim (λ lt. inl (omega arith)) (λ ge. inr (omega arith)) o)))
    (cases_eq a (i + 1))

-- row i + 1 in two runs into row i, passing over column r
pub sink_runs : {X : Type 0} (f g h : ℕ → X) (i r from to : ℕ) → to ≡ tri i → from ≡ to + i + 1 → r ≤ i
    → ((k : ℕ) → g k ≡ copied from to r f k)
    → ((k : ℕ) → h k ≡ copied (from + r + 1) (to + r) (i + 1 - r) g k)
    → (a b : ℕ) → b ≤ a → h (tri a + b) ≡ cond (eqb a i) (f (tri (i + 1) + jump r b)) (f (tri a + b))
sink_runs f g h i r from to et ef hr one two a b le =
    let k = tri a + b in
    let t = tri_more i in
    ⊎_elim
    (λ e.
    let at : k ≡ to + b = omega (arith, ap tri e) in
    let p : eqb a i ≡ true = eq-eqb a i e in
    ⊎_elim
    (λ lt.
    let s : jump r b ≡ b = cond-true (ltb b r) b (b + 1) (lt-ltb b r lt) in
    let m : k - to + from ≡ tri (i + 1) + jump r b = omega arith in
    simp p
    (two k
    ∙ copied_out (from + r + 1) (to + r) (i + 1 - r) g k (inl (omega arith))
    ∙ one k
    ∙ copied_in from to r f k (tri (i + 1) + jump r b) (omega arith) (omega arith) m))
    (λ ge.
    let s : jump r b ≡ b + 1 = cond-false (ltb b r) b (b + 1) (le-ltb b r ge) in
    let m : k - (to + r) + (from + r + 1) ≡ tri (i + 1) + jump r b = omega arith in
    simp p
    (two k
    ∙ copied_in (from + r + 1) (to + r) (i + 1 - r) g k (tri (i + 1) + jump r b) (omega arith) (omega arith) m
    ∙ one (tri (i + 1) + jump r b)
    ∙ copied_out from to r f (tri (i + 1) + jump r b) (inr (omega arith))))
    (cases_lt b r))
    (λ ne.
    let o = outside a b i le ne in
    let p : eqb a i ≡ false = ne_eqb a i ne in
    simp p
    (two k
    ∙ copied_out (from + r + 1) (to + r) (i + 1 - r) g k (⊎_elim (λ lt. inl (omega arith)) (λ ge. inr (omega arith)) o)
    ∙ one k
    ∙ copied_out from to r f k (⊎_elim (λ lt. inl (omega arith)) (λ ge. inr (omega arith)) o)))
    (cases_eq a i)

-- the rows up to row i, and the places from row i + 1 on
module _ {X : Type 0} (z : X) (above next : List X) (i r at : ℕ) (place : at ≡ tri i) (rank : r ≤ i) (ends : length above ≡ at + i + 1) (more : i + 2 ≤ length next) where
  -- how many places row i has, and the row
  abbrev size : ℕ
  size = length above - at

  abbrev row : List X
  row = take size (drop at above)

  abbrev before : List X
  before = take at above

  abbrev rest : List X
  rest = drop size (drop at above)

  length-row : length row ≡ i + 1
  length-row = length-take-le size (drop at above) (omega (arith, length-drop at above)) ∙ omega arith

  row_at : (ys : List X) (j : ℕ) → j < i + 1 → get_or (above ++ ys) (at + j) z ≡ get_or row j z
  row_at ys j lt = get_or_append_left above ys z (at + j) (omega arith) ∙ sym (get_or-take size (drop at above) j z (omega arith) ∙ get_or-drop at above j z)

  -- a part of row i + 1 written
  next_step : (ys part : List X) (s n from : ℕ) → s + n ≤ length ys → length part ≡ n → ((j : ℕ) → j < n → get_or part j z ≡ get_or (above ++ ys) (from + j) z)
      → (k : ℕ) → get_or (above ++ put_mid s n ys part) k z ≡ copied from (at + i + 1 + s) n (λ p. get_or (above ++ ys) p z) k
  next_step ys part s n from fits long same k =
      ap (λ l. get_or (above ++ l) k z) (sym (append-nil (put_mid s n ys part)))
      ∙ copied_part z above ys [] part s n from fits long (λ j lt. same j lt ∙ ap (λ l. get_or (above ++ l) (from + j) z) (sym (append-nil ys))) k
      ∙ ap (λ t. copied from (t + s) n (λ p. get_or (above ++ (ys ++ [])) p z) k) ends
      ∙ ap (λ l. copied from (at + i + 1 + s) n (λ p. get_or (above ++ l) p z) k) (append-nil ys)

  pub lifted : (one two : List X) → one ≡ take r row → two ≡ take (length row - r) (drop r row)
      → (a b : ℕ) → b ≤ a → get_or (above ++ put_mid (r + 1) (i + 2 - (r + 1)) (put_mid 0 r next one) two) (tri a + b) z
      ≡ cond (eqb a (i + 1) && not (eqb b r)) (get_or (above ++ next) (tri i + skip r b) z) (get_or (above ++ next) (tri a + b) z)
  lifted one two eo et a b le =
      let n = length-row in
      let lo : length one ≡ r = ap length eo ∙ length-take-le r row (omega arith) in
      let lt : length two ≡ i + 2 - (r + 1) = ap length et ∙ length-take-le (length row - r) (drop r row) (omega (arith, length-drop r row)) ∙ omega arith in
      let first = put_mid 0 r next one in
      let same : length first ≡ length next = length-written z next one 0 r (omega arith) lo in
      lift_runs (λ k. get_or (above ++ next) k z) (λ k. get_or (above ++ first) k z) (λ k. get_or (above ++ put_mid (r + 1) (i + 2 - (r + 1)) first two) k z)
      i r at (at + i + 1) place refl rank
      (λ k. next_step next one 0 r at (omega arith) lo (λ j lj. ap (λ l. get_or l j z) eo ∙ get_or-take r row j z lj ∙ sym (row_at next j (omega arith))) k
      ∙ ap (λ t. copied at t r (λ p. get_or (above ++ next) p z) k) (omega arith))
      (λ k. next_step first two (r + 1) (i + 2 - (r + 1)) (at + r) (omega arith) lt
      (λ j lj. ap (λ l. get_or l j z) et ∙ get_or-take (length row - r) (drop r row) j z (omega arith) ∙ get_or-drop r row j z
      ∙ sym (row_at first (r + j) (omega arith)) ∙ ap (λ m. get_or (above ++ first) m z) (omega arith)) k
      ∙ ap (λ c. copied (at + r) (at + i + 1 + (r + 1)) c (λ p. get_or (above ++ first) p z) k) (omega arith)
      ∙ ap (λ t. copied (at + r) t (i + 1 - r) (λ p. get_or (above ++ first) p z) k) (omega arith))
      a b le

  -- with other places for row i
  abbrev whole : List X → List X
  whole ys = put_mid at size above ys ++ next

  whole_is : whole row ≡ above ++ next
  whole_is = ap (λ t. before ++ t ++ next) (take-append-drop size (drop at above)) ∙ ap (λ t. t ++ next) (take-append-drop at above)

  regrouped : (ys : List X) → whole ys ≡ before ++ (ys ++ (rest ++ next))
  regrouped ys = append_assoc before (ys ++ rest) next ∙ ap (λ t. before ++ t) (append_assoc ys rest next)

  next_at : (ys : List X) (j : ℕ) → length ys ≡ i + 1 → j < i + 2 → get_or (whole ys) (at + i + 1 + j) z ≡ get_or next j z
  next_at ys j long lt =
      let n : length (put_mid at size above ys) ≡ length above = length-written z above ys at size (omega arith) (long ∙ omega arith) in
      get_or-append_right (put_mid at size above ys) next (at + i + 1) (at + i + 1 + j) z (n ∙ ends) (omega arith) ∙ ap (λ m. get_or next m z) (omega arith)

  -- a part of row i written
  row_step : (ys part : List X) (s n from : ℕ) → s + n ≤ length ys → length part ≡ n → ((j : ℕ) → j < n → get_or part j z ≡ get_or (whole ys) (from + j) z)
      → (k : ℕ) → get_or (whole (put_mid s n ys part)) k z ≡ copied from (at + s) n (λ p. get_or (whole ys) p z) k
  row_step ys part s n from fits long same k =
      ap (λ l. get_or l k z) (regrouped (put_mid s n ys part))
      ∙ copied_part z before ys (rest ++ next) part s n from fits long (λ j lt. same j lt ∙ ap (λ l. get_or l (from + j) z) (regrouped ys)) k
      ∙ ap (λ t. copied from (t + s) n (λ p. get_or (before ++ (ys ++ (rest ++ next))) p z) k) (length-take-le at above (omega arith))
      ∙ ap (λ l. copied from (at + s) n (λ p. get_or l p z) k) (sym (regrouped ys))

  pub sunk : (one two : List X) → one ≡ take r next → two ≡ take (i + 2 - (r + 1)) (drop (r + 1) next)
      → (a b : ℕ) → b ≤ a → get_or (whole (put_mid r (length (put_mid 0 r row one) - r) (put_mid 0 r row one) two)) (tri a + b) z
      ≡ cond (eqb a i) (get_or (above ++ next) (tri (i + 1) + jump r b) z) (get_or (above ++ next) (tri a + b) z)
  sunk one two eo et a b le =
      let n = length-row in
      let lo : length one ≡ r = ap length eo ∙ length-take-le r next (omega arith) in
      let first = put_mid 0 r row one in
      let same : length first ≡ length row = length-written z row one 0 r (omega arith) lo in
      let m = length first - r in
      let lt : length two ≡ m = ap length et ∙ length-take-le (i + 2 - (r + 1)) (drop (r + 1) next) (omega (arith, length-drop (r + 1) next)) ∙ omega arith in
      sink_runs (λ k. get_or (above ++ next) k z) (λ k. get_or (whole first) k z) (λ k. get_or (whole (put_mid r m first two)) k z) i r (at + i + 1) at place refl rank
      (λ k. row_step row one 0 r (at + i + 1) (omega arith) lo (λ j lj. ap (λ l. get_or l j z) eo ∙ get_or-take r next j z lj ∙ sym (next_at row j n (omega arith))) k
      ∙ ap (λ t. copied (at + i + 1) t r (λ p. get_or (whole row) p z) k) (omega arith)
      ∙ ap (λ l. copied (at + i + 1) at r (λ p. get_or l p z) k) whole_is)
      (λ k. row_step first two r m (at + i + 1 + r + 1) (omega arith) lt
      (λ j lj. ap (λ l. get_or l j z) et ∙ get_or-take (i + 2 - (r + 1)) (drop (r + 1) next) j z (omega arith) ∙ get_or-drop (r + 1) next j z
      ∙ sym (next_at first (r + 1 + j) (same ∙ n) (omega arith)) ∙ ap (λ p. get_or (whole first) p z) (omega arith)) k
      ∙ ap (λ c. copied (at + i + 1 + r + 1) (at + r) c (λ p. get_or (whole first) p z) k) (omega arith))
      a b le
