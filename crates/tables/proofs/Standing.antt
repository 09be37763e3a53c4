-- A table's rows by its ordered list: what the calls leave of rows that rise, and of records laid out before blanks. Assumes nothing.
use Rattle.std.proofs.Common.{◌≡◌, ℕ, suc, ◌+◌, ◌-◌, ◌<◌, ◌≤◌, Bool, true, false, cond, ltb, List, [], ◌∷◌, ◌++◌, length, take, drop, set, replicate, is_ok, Ok, Err, Result, Ordering, Less, Equal, Greater, sym, refl, ap, ◌∙◌, subst, arith, take-append-drop}
use Rattle.refusals.specs.declared.Fault.{Fault}
use Rattle.refusals.specs.declared.Fault.TheVariants.{TableFull, RecordAbsent}
use Rattle.std.specs.Cmp.{IsTotalOrder}
use Rattle.std.specs.List.{insert, remove}
use Rattle.std.proofs.lemmas.List.Edits.{length-insert, length-remove}
use Rattle.std.proofs.lemmas.List.{append_assoc, drop_at, drop-drop, drop-replicate, length-append, length-replicate, length-set, length-take-le, replicate-append-replicate, set-append_left, take_at}
use Rattle.std.proofs.lemmas.Bool.{both_ways, cond-true, cond-false}
use Rattle.tables.specs.Keys.{Rising, by3}
use Rattle.tables.specs.Lists.{place_from, place, holds, put, without, over, laid}
use Rattle.tables.specs.Rows.{sought, filled, used_rows, put_answer_at, put_rows_at, drop_answer_at, drop_rows_at, put_answer, put_rows, drop_answer, drop_rows}
use Rattle.tables.specs.Laws.{PutSorted, DropSorted, put_rule, drop_rule, StaysLaid, LaidLaw}
use Rattle.tables.proofs.Places.{sought-place}

-- ---- what a place says of the list

abbrev Sees : {R : Type 0} → List R → R → ℕ → Result ℕ ℕ → Bool → List R → List R → Type 0
Sees xs r i (Ok k) h p w = (j : ℕ) × ((k ≡ i + j) × ((j < length xs) × ((h ≡ true) × ((p ≡ set xs j r) × (w ≡ remove xs j)))))
Sees xs r i (Err k) h p w = (j : ℕ) × ((k ≡ i + j) × ((j ≤ length xs) × ((h ≡ false) × ((p ≡ insert xs j r) × (w ≡ xs)))))

shift : {R : Type 0} (xs : List R) (r x : R) (i : ℕ) (q : Result ℕ ℕ) (h : Bool) (p w : List R) → Sees xs r (i + 1) q h p w → Sees (x ∷ xs) r i q h (x ∷ p) (x ∷ w)
shift xs r x i (Ok k) h p w (j, (e, (lt, (t, (a, b))))) = (suc j, (omega arith, (omega arith, (t, (ap (λ l. x ∷ l) a, ap (λ l. x ∷ l) b)))))
shift xs r x i (Err k) h p w (j, (e, (lt, (t, (a, b))))) = (suc j, (omega arith, (omega arith, (t, (ap (λ l. x ∷ l) a, ap (λ l. x ∷ l) b)))))

turn : {R : Type 0} (o : Ordering) (xs : List R) (r x : R) (i : ℕ) (q : Result ℕ ℕ) (h : Bool) (p w : List R) → Sees xs r (i + 1) q h p w
    → Sees (x ∷ xs) r i (by3 o q (Ok i) (Err i)) (by3 o h true false) (by3 o (x ∷ p) (r ∷ xs) (r ∷ x ∷ xs)) (by3 o (x ∷ w) xs (x ∷ xs))
turn Less xs r x i q h p w s = shift xs r x i q h p w s
turn Equal xs r x i q h p w s = (0, (omega arith, (omega arith, (refl, (refl, refl)))))
turn Greater xs r x i q h p w s = (0, (omega arith, (omega arith, (refl, (refl, refl)))))

sees : {R : Type 0} (cmp : R → R → Ordering) (r : R) (xs : List R) (i : ℕ) → Sees xs r i (place_from cmp r i xs) (holds cmp r xs) (put cmp r xs) (without cmp r xs)
sees cmp r [] i = (0, (omega arith, (omega arith, (refl, (refl, refl)))))
sees cmp r (x ∷ xs) i = turn (cmp x r) xs r x i (place_from cmp r (i + 1) xs) (holds cmp r xs) (put cmp r xs) (without cmp r xs) (sees cmp r xs (i + 1))

-- ---- the calls by the place, on rows whose used part is xs

-- the used rows, their length known, and what the place says
module _ {R : Type 0} (r blank : R) (rows xs p w : List R) (u : ℕ) (h : Bool) (front : take u rows ≡ xs) (long : length xs ≡ u) (within : u ≤ length rows) where
  split : xs ++ drop u rows ≡ rows
  split = ap (λ t. t ++ drop u rows) (sym front) ∙ take-append-drop u rows

  abbrev put_by : Result ℕ Fault
  put_by = cond h (Ok u) (cond (ltb u (length rows)) (Ok (u + 1)) (Err TableFull))

  abbrev drop_by : Result ℕ Fault
  drop_by = cond h (Ok (u - 1)) (Err RecordAbsent)

  pub put_by_lem : (q : Result ℕ ℕ) → Sees xs r 0 q h p w → (put_answer_at q u (length rows) ≡ put_by) × (put_rows_at q r u rows ≡ cond (is_ok put_by) (over p rows) rows)
  put_by_lem (Ok k) (j, (e, (lt, (t, (a, b))))) =
      let same : k ≡ j = omega arith in
      let size : length p ≡ u = ap length a ∙ length-set xs j r ∙ long in
      let yes : put_by ≡ Ok u = cond-true h _ _ t in (
        sym yes,
        ap (λ n. set rows n r) same
            ∙ ap (λ l. set l j r) (sym split)
            ∙ set-append_left xs (drop u rows) j r lt
            ∙ ap (λ l. l ++ drop u rows) (sym a)
            ∙ ap (λ n. p ++ drop n rows) (sym size)
            ∙ sym (ap (λ (v : Result ℕ Fault). cond (is_ok v) (over p rows) rows) yes),
      )
  put_by_lem (Err k) (j, (e, (le, (t, (a, b))))) =
      let same : k ≡ j = omega arith in
      let size : length p ≡ u + 1 = ap length a ∙ length-insert xs j r le ∙ ap (λ n. n + 1) long in
      let no : put_by ≡ cond (ltb u (length rows)) (Ok (u + 1)) (Err TableFull) = cond-false h _ _ t in (
        sym no,
        ap (λ n. cond (ltb u (length rows)) (insert (take u rows) n r ++ drop (u + 1) rows) rows) same
            ∙ ap (λ l. cond (ltb u (length rows)) (insert l j r ++ drop (u + 1) rows) rows) front
            ∙ ap (λ l. cond (ltb u (length rows)) (l ++ drop (u + 1) rows) rows) (sym a)
            ∙ ap (λ n. cond (ltb u (length rows)) (p ++ drop n rows) rows) (sym size)
            ∙ room (ltb u (length rows))
            ∙ sym (ap (λ (v : Result ℕ Fault). cond (is_ok v) (over p rows) rows) no),
      )
    where
      room : (b : Bool) → cond b (over p rows) rows ≡ cond (is_ok {E = Fault} (cond b (Ok (u + 1)) (Err TableFull))) (over p rows) rows
      room true = refl
      room false = refl

  pub drop_by_lem : (q : Result ℕ ℕ) → Sees xs r 0 q h p w → (drop_answer_at q u ≡ drop_by) × (drop_rows_at q blank u rows ≡ cond (is_ok drop_by) (over (laid blank u w) rows) rows)
  drop_by_lem (Ok k) (j, (e, (lt, (t, (a, b))))) =
      let same : k ≡ j = omega arith in
      let yes : drop_by ≡ Ok (u - 1) = cond-true h _ _ t in
      let less : length (remove xs j) + 1 ≡ length xs = length-remove xs j lt in
      let lw : length w ≡ length (remove xs j) = ap length b in
      let one : u - length w ≡ 1 = omega arith in
      let lay : laid blank u w ≡ w ++ blank ∷ [] = ap (λ n. w ++ replicate n blank) one in
      let size : length (laid blank u w) ≡ u = ap length lay ∙ length-append w (blank ∷ []) ∙ omega arith in (
        sym yes,
        ap (λ n. remove (take u rows) n ++ (blank ∷ drop u rows)) same
            ∙ ap (λ l. remove l j ++ (blank ∷ drop u rows)) front
            ∙ ap (λ l. l ++ (blank ∷ drop u rows)) (sym b)
            ∙ sym (append_assoc w (blank ∷ []) (drop u rows))
            ∙ ap (λ l. l ++ drop u rows) (sym lay)
            ∙ ap (λ n. laid blank u w ++ drop n rows) (sym size)
            ∙ sym (ap (λ (v : Result ℕ Fault). cond (is_ok v) (over (laid blank u w) rows) rows) yes),
      )
  drop_by_lem (Err k) (j, (e, (le, (t, (a, b))))) =
      let no : drop_by ≡ Err RecordAbsent = cond-false h _ _ t in
      (sym no, sym (ap (λ (v : Result ℕ Fault). cond (is_ok v) (over (laid blank u w) rows) rows) no))

-- ---- rows of which the first u rise

module _ {R : Type 0} (cmp : R → R → Ordering) (o : IsTotalOrder cmp) (r blank : R) (used : ℕ) (rows : List R) (within : used ≤ length rows) (rising : Rising cmp (take used rows)) where
  all : filled used rows ≡ used
  all = omega arith

  abbrev front_rows : List R
  front_rows = take used rows

  pub sought_sorted : sought cmp r (used_rows used rows) ≡ place cmp r front_rows
  sought_sorted = ap (λ n. sought cmp r (take n rows)) all ∙ sought-place cmp o r front_rows rising

  pub put_sorted : PutSorted cmp r used rows (put_rows cmp r used rows) (put_answer cmp r used rows)
  put_sorted =
      let b = put_by_lem r blank rows front_rows (put cmp r front_rows) (without cmp r front_rows) used (holds cmp r front_rows) refl (length-take-le used rows within) within (place cmp r front_rows) (sees cmp r front_rows 0) in
      let first : put_answer cmp r used rows ≡ cond (holds cmp r front_rows) (Ok used) (cond (ltb used (length rows)) (Ok (used + 1)) (Err TableFull)) =
      ap (λ q. put_answer_at q (filled used rows) (length rows)) sought_sorted ∙ ap (λ n. put_answer_at (place cmp r front_rows) n (length rows)) all ∙ b.0 in
      record {
        replies = first;
        leaves =
            ap (λ q. put_rows_at q r (filled used rows) rows) sought_sorted
            ∙ ap (λ n. put_rows_at (place cmp r front_rows) r n rows) all
            ∙ b.1
            ∙ sym (ap (λ (v : Result ℕ Fault). cond (is_ok v) (over (put cmp r front_rows) rows) rows) first);
      }

  pub drop_sorted : DropSorted cmp blank r used rows (drop_rows cmp blank r used rows) (drop_answer cmp r used rows)
  drop_sorted =
      let b = drop_by_lem r blank rows front_rows (put cmp r front_rows) (without cmp r front_rows) used (holds cmp r front_rows) refl (length-take-le used rows within) within (place cmp r front_rows) (sees cmp r front_rows 0) in
      let first : drop_answer cmp r used rows ≡ cond (holds cmp r front_rows) (Ok (used - 1)) (Err RecordAbsent) =
      ap (λ q. drop_answer_at q (filled used rows)) sought_sorted ∙ ap (λ n. drop_answer_at (place cmp r front_rows) n) all ∙ b.0 in
      record {
        replies = first;
        leaves =
            ap (λ q. drop_rows_at q blank (filled used rows) rows) sought_sorted
            ∙ ap (λ n. drop_rows_at (place cmp r front_rows) blank n rows) all
            ∙ b.1
            ∙ sym (ap (λ (v : Result ℕ Fault). cond (is_ok v) (over (laid blank used (without cmp r front_rows)) rows) rows) first);
      }

  pub put_sorted_as : (after : List R) (answer : Result ℕ Fault) → answer ≡ put_answer cmp r used rows → after ≡ put_rows cmp r used rows → PutSorted cmp r used rows after answer
  put_sorted_as after answer a p = record {
    replies = a ∙ put_sorted.replies;
    leaves = p ∙ put_sorted.leaves ∙ sym (ap (λ (v : Result ℕ Fault). cond (is_ok v) (over (put cmp r front_rows) rows) rows) a);
  }

  pub drop_sorted_as : (after : List R) (answer : Result ℕ Fault) → answer ≡ drop_answer cmp r used rows → after ≡ drop_rows cmp blank r used rows
      → DropSorted cmp blank r used rows after answer
  drop_sorted_as after answer a p = record {
    replies = a ∙ drop_sorted.replies;
    leaves = p ∙ drop_sorted.leaves ∙ sym (ap (λ (v : Result ℕ Fault). cond (is_ok v) (over (laid blank used (without cmp r front_rows)) rows) rows) a);
  }

-- ---- records laid out before blanks

module _ {R : Type 0} (b : R) (n : ℕ) (xs : List R) (fits : length xs ≤ n) where
  pub length-laid : length (laid b n xs) ≡ n
  length-laid =
      let e : length (replicate (n - length xs) b) ≡ n - length xs = length-replicate (n - length xs) b in
      length-append xs (replicate (n - length xs) b) ∙ omega arith

  pub take-laid : take (length xs) (laid b n xs) ≡ xs
  take-laid = take_at xs (replicate (n - length xs) b) (length xs) refl

  pub drop-laid : (m : ℕ) → length xs ≤ m → drop m (laid b n xs) ≡ replicate (n - m) b
  drop-laid m le =
      let e : m ≡ length xs + (m - length xs) = omega arith in
      let k : (n - length xs) - (m - length xs) ≡ n - m = omega arith in
      ap (λ t. drop t (laid b n xs)) e
      ∙ sym (drop-drop (m - length xs) (length xs) (laid b n xs))
      ∙ ap (drop (m - length xs)) (drop_at xs (replicate (n - length xs) b) (length xs) refl)
      ∙ drop-replicate (m - length xs) (n - length xs) b
      ∙ ap (λ t. replicate t b) k

  pub over-laid : (ys : List R) → length xs ≤ length ys → over ys (laid b n xs) ≡ laid b n ys
  over-laid ys le = ap (λ t. ys ++ t) (drop-laid (length ys) le)

  pub over_laid_less : (ys : List R) → length ys ≤ length xs → over (laid b (length xs) ys) (laid b n xs) ≡ laid b n ys
  over_laid_less ys le =
      let u = length xs in
      let size : length (laid b u ys) ≡ u = let e : length (replicate (u - length ys) b) ≡ u - length ys = length-replicate (u - length ys) b in length-append ys (replicate (u - length ys) b) ∙ omega arith in
      let sum : (u - length ys) + (n - u) ≡ n - length ys = omega arith in
      ap (λ k. laid b u ys ++ drop k (laid b n xs)) size
      ∙ ap (λ t. laid b u ys ++ t) (drop-laid u (omega arith))
      ∙ append_assoc ys (replicate (u - length ys) b) (replicate (n - u) b)
      ∙ ap (λ t. ys ++ t) (replicate-append-replicate (u - length ys) (n - u) b)
      ∙ ap (λ k. ys ++ replicate k b) sum

-- how long a list is after a put, and after a drop
put-long : {R : Type 0} (xs : List R) (r : R) (q : Result ℕ ℕ) (h : Bool) (p w : List R) → Sees xs r 0 q h p w → length xs ≤ length p
put-long xs r (Ok k) h p w (j, (e, (lt, (t, (a, b))))) = omega (arith, ap length a, length-set xs j r)
put-long xs r (Err k) h p w (j, (e, (le, (t, (a, b))))) = omega (arith, ap length a, length-insert xs j r le)

drop_short : {R : Type 0} (xs : List R) (r : R) (q : Result ℕ ℕ) (h : Bool) (p w : List R) → Sees xs r 0 q h p w → length w ≤ length xs
drop_short xs r (Ok k) h p w (j, (e, (lt, (t, (a, b))))) = omega (arith, ap length b, length-remove xs j lt)
drop_short xs r (Err k) h p w (j, (e, (le, (t, (a, b))))) = omega (arith, ap length b)

absent_same : {R : Type 0} (xs : List R) (r : R) (q : Result ℕ ℕ) (h : Bool) (p w : List R) → Sees xs r 0 q h p w → h ≡ false → xs ≡ w
absent_same xs r (Ok k) h p w (j, (e, (lt, (t, (a, b))))) n = absurd (both_ways h n t)
absent_same xs r (Err k) h p w (j, (e, (le, (t, (a, b))))) n = sym b

either-laid : {R : Type 0} (b : R) (n : ℕ) (c : Bool) (ys zs : List R) → cond c (laid b n ys) (laid b n zs) ≡ laid b n (cond c ys zs)
either-laid b n true ys zs = refl
either-laid b n false ys zs = refl

module _ {R : Type 0} (cmp : R → R → Ordering) (o : IsTotalOrder cmp) (blank r : R) (n : ℕ) (ys : List R) (fits : length ys ≤ n) (rising : Rising cmp ys) where
  abbrev lay : List R
  lay = laid blank n ys

  front' : take (length ys) lay ≡ ys
  front' = take-laid blank n ys fits

  size' : length lay ≡ n
  size' = length-laid blank n ys fits

  le' : length ys ≤ length lay
  le' = omega (arith, size')

  up : Rising cmp (take (length ys) lay)
  up = subst (Rising cmp) (sym front') rising

  seen : Sees ys r 0 (place cmp r ys) (holds cmp r ys) (put cmp r ys) (without cmp r ys)
  seen = sees cmp r ys 0

  put-reply : put_answer cmp r (length ys) lay ≡ put_rule cmp r n ys
  put-reply =
      (put_sorted cmp o r blank (length ys) lay le' up).replies
      ∙ ap (λ t. cond (holds cmp r t) (Ok (length ys)) (cond (ltb (length ys) (length lay)) (Ok (length ys + 1)) (Err TableFull))) front'
      ∙ ap (λ m. cond (holds cmp r ys) (Ok (length ys)) (cond (ltb (length ys) m) (Ok (length ys + 1)) (Err TableFull))) size'

  drop-reply : drop_answer cmp r (length ys) lay ≡ drop_rule cmp r ys
  drop-reply =
      (drop_sorted cmp o r blank (length ys) lay le' up).replies
      ∙ ap (λ t. cond (holds cmp r t) (Ok (length ys - 1)) (Err RecordAbsent)) front'

  dropped : (h : Bool) → holds cmp r ys ≡ h → cond (is_ok {E = Fault} (cond h (Ok (length ys - 1)) (Err RecordAbsent))) (laid blank n (without cmp r ys)) lay ≡ laid blank n (without cmp r ys)
  dropped true e = refl
  dropped false e = ap (laid blank n) (absent_same ys r (place cmp r ys) (holds cmp r ys) (put cmp r ys) (without cmp r ys) seen e)

  stays_laid : StaysLaid cmp blank r n ys
  stays_laid = record {
    put-answer = put-reply;
    put-rows =
        (put_sorted cmp o r blank (length ys) lay le' up).leaves
        ∙ ap (λ (v : Result ℕ Fault). cond (is_ok v) (over (put cmp r (take (length ys) lay)) lay) lay) put-reply
        ∙ ap (λ t. cond (is_ok (put_rule cmp r n ys)) (over (put cmp r t) lay) lay) front'
        ∙ ap (λ t. cond (is_ok (put_rule cmp r n ys)) t lay)
        (over-laid blank n ys fits (put cmp r ys) (put-long ys r (place cmp r ys) (holds cmp r ys) (put cmp r ys) (without cmp r ys) seen))
        ∙ either-laid blank n (is_ok (put_rule cmp r n ys)) (put cmp r ys) ys;
    drop-answer = drop-reply;
    drop-rows =
        (drop_sorted cmp o r blank (length ys) lay le' up).leaves
        ∙ ap (λ (v : Result ℕ Fault). cond (is_ok v) (over (laid blank (length ys) (without cmp r (take (length ys) lay))) lay) lay) drop-reply
        ∙ ap (λ t. cond (is_ok (drop_rule cmp r ys)) (over (laid blank (length ys) (without cmp r t)) lay) lay) front'
        ∙ ap (λ t. cond (is_ok (drop_rule cmp r ys)) t lay)
        (over_laid_less blank n ys fits (without cmp r ys) (drop_short ys r (place cmp r ys) (holds cmp r ys) (put cmp r ys) (without cmp r ys) seen))
        ∙ dropped (holds cmp r ys) refl;
  }

pub laid_law : {R : Type 0} (cmp : R → R → Ordering) (blank : R) → IsTotalOrder cmp → LaidLaw R cmp blank
laid_law cmp blank o n r xs fits rising = stays_laid cmp o blank r n xs fits rising
