-- Ordered lists and the rows they are laid out in: what an edit keeps, and how many records there are then. Assumes nothing.
use Rattle.std.specs.Cmp.{IsTotalOrder}
use Rattle.std.specs.Result.{result_unwrap_or}
use Rattle.std.proofs.Common.{◌≡◌, ℕ, suc, ◌+◌, ◌-◌, ◌<◌, ◌≤◌, Bool, true, false, cond, ◌||◌, ltb, ◌⊎◌, List, [], ◌∷◌, length, is_ok, Ok, Err, Result, Ordering, Less, Equal, Greater, sym, refl, ap, ◌∙◌, inl, inr, ⊎_elim, arith}
use Rattle.codes.specs.Order.{is_equal}
use Rattle.model.proofs.Matched.{first-before}
use Rattle.model.specs.Edits.{room}
use Rattle.model.specs.Handed.{demand}
use Rattle.model.specs.Needs.{any_of}
use Rattle.headings.specs.Lines.{and_then}
use Rattle.refusals.specs.declared.Fault.{Fault}
use Rattle.refusals.specs.declared.Fault.TheVariants.{RecordAbsent, TableFull}
use Rattle.std.proofs.lemmas.Bool.{both_ways, cases_Bool, ltb-true, or_cases, or_left, or_right}
use Rattle.tables.proofs.Edits.{drop_law, put_law, rises-put, rises-without}
use Rattle.std.proofs.lemmas.Cmp.{alike_right}
use Rattle.tables.proofs.Orders.{greater_not_equal, less_not_equal}
use Rattle.tables.proofs.Standing.{laid_law}
use Rattle.tables.specs.Keys.{Rising, by3}
use Rattle.tables.specs.Laws.{Among, put_rule}
use Rattle.tables.specs.Lists.{holds, laid, put, without}
use Rattle.tables.specs.Rows.{drop_answer, drop_rows, plain, put_answer, put_rows}

-- ---- answers of a comparison

pub equal_or_not : (q : Ordering) → (q ≡ Equal) ⊎ (q ≡ Equal → ⊥)
equal_or_not Less = inr (less_not_equal refl)
equal_or_not Equal = inl refl
equal_or_not Greater = inr (greater_not_equal refl)

pub is_equal_lem : (q : Ordering) → is_equal q ≡ true → q ≡ Equal
is_equal_lem Less e = absurd (both_ways false refl e)
is_equal_lem Equal e = refl
is_equal_lem Greater e = absurd (both_ways false refl e)

-- ---- a test that holds of one of a list

pub any_among : {R : Type 0} (f : R → Bool) (xs : List R) → any_of f xs ≡ true → (y : R) × Among y xs × (f y ≡ true)
any_among f [] e = absurd (both_ways false refl e)
any_among f (x ∷ xs) e =
    ⊎_elim (λ p. (x, inl refl, p)) (λ p. let (y, m, q) = any_among f xs p in (y, inr m, q)) (or_cases (f x) (any_of f xs) e)

pub among_any : {R : Type 0} (f : R → Bool) (xs : List R) (y : R) → Among y xs → f y ≡ true → any_of f xs ≡ true
among_any f [] y m e = absurd m
among_any f (x ∷ xs) y (inl p) e = or_left (f x) (any_of f xs) (ap f (sym p) ∙ e)
among_any f (x ∷ xs) y (inr m) e = or_right (f x) (any_of f xs) (among_any f xs y m e)

-- ---- a record known by its key only

-- of two records that compare alike with all others the list has both or none
pub holds-alike : {R : Type 0} (cmp : R → R → Ordering) (q r : R) → ((y : R) → cmp y q ≡ cmp y r) → (xs : List R) → holds cmp q xs ≡ holds cmp r xs
holds-alike cmp q r h [] = refl
holds-alike cmp q r h (x ∷ xs) =
    ap (λ t. by3 t (holds cmp q xs) true false) (h x) ∙ ap (λ t. by3 (cmp x r) t true false) (holds-alike cmp q r h xs)

pub without-alike : {R : Type 0} (cmp : R → R → Ordering) (q r : R) → ((y : R) → cmp y q ≡ cmp y r) → (xs : List R) → without cmp q xs ≡ without cmp r xs
without-alike cmp q r h [] = refl
without-alike cmp q r h (x ∷ xs) =
    ap (λ t. by3 t (x ∷ without cmp q xs) xs (x ∷ xs)) (h x) ∙ ap (λ t. by3 (cmp x r) (x ∷ t) xs (x ∷ xs)) (without-alike cmp q r h xs)

-- ---- keys that rise

module _ {R : Type 0} (cmp : R → R → Ordering) (o : IsTotalOrder cmp) where
  -- a test that tells keys only holds of one still, after a put
  pub any_put : (f : R → Bool) (r : R) → ((y : R) → cmp y r ≡ Equal → f y ≡ f r) → (xs : List R) → Rising cmp xs → any_of f xs ≡ true → any_of f (put cmp r xs) ≡ true
  any_put f r c xs up h =
      let (y, m, e) = any_among f xs h in
      let law = put_law cmp o r xs up in
      ⊎_elim (λ q. among_any f (put cmp r xs) r law.new (sym (c y q) ∙ e)) (λ n. among_any f (put cmp r xs) y (law.kept y m n) e) (equal_or_not (cmp y r))

  -- after a drop, if it was not the dropped one
  pub any_without : (f : R → Bool) (r : R) (xs : List R) (y : R) → Rising cmp xs → Among y xs → f y ≡ true → (cmp y r ≡ Equal → ⊥) → any_of f (without cmp r xs) ≡ true
  any_without f r xs y up m e n = among_any f (without cmp r xs) y ((drop_law cmp o r xs up).kept y m n) e

  past_greater : (q x : R) (xs : List R) → Rising cmp (x ∷ xs) → cmp x q ≡ Greater → any_of (λ y. is_equal (cmp y q)) xs ≡ true → ⊥
  past_greater q x xs up g h =
      let (y, m, e) = any_among (λ y. is_equal (cmp y q)) xs h in
      let same : cmp x q ≡ cmp x y = sym (alike_right o y q x (is_equal_lem (cmp y q) e)) in
      let less : cmp x q ≡ Less = same ∙ first-before cmp o x xs up y m in
      let z : ◌≡◌ {A = ℕ} 0 1 = cc in
      omega arith

  holds_any_by : (t : Ordering) (h a : Bool) → h ≡ a → (t ≡ Greater → a ≡ true → ⊥) → by3 t h true false ≡ is_equal t || a
  holds_any_by Less h a e g = e
  holds_any_by Equal h a e g = refl
  holds_any_by Greater h true e g = absurd (g refl refl)
  holds_any_by Greater h false e g = refl

  -- to have a record of q's key
  pub holds_any : (q : R) (xs : List R) → Rising cmp xs → holds cmp q xs ≡ any_of (λ y. is_equal (cmp y q)) xs
  holds_any q [] up = refl
  holds_any q (x ∷ xs) up =
      holds_any_by (cmp x q) (holds cmp q xs) (any_of (λ y. is_equal (cmp y q)) xs) (holds_any q xs up.1) (past_greater q x xs up)

  pub holds_among : (q : R) (xs : List R) → Rising cmp xs → holds cmp q xs ≡ true → (y : R) × Among y xs × (cmp y q ≡ Equal)
  holds_among q xs up h =
      let (y, m, e) = any_among (λ y. is_equal (cmp y q)) xs (sym (holds_any q xs up) ∙ h) in
      (y, m, is_equal_lem (cmp y q) e)

  pub among_holds : (q : R) (xs : List R) (y : R) → Rising cmp xs → Among y xs → cmp y q ≡ Equal → holds cmp q xs ≡ true
  among_holds q xs y up m e = holds_any q xs up ∙ among_any (λ y. is_equal (cmp y q)) xs y m (ap is_equal e)

  pub holds-put : (q r : R) (xs : List R) → Rising cmp xs → holds cmp q xs ≡ true → holds cmp q (put cmp r xs) ≡ true
  holds-put q r xs up h =
      holds_any q (put cmp r xs) (rises-put cmp o r xs up)
      ∙ any_put (λ y. is_equal (cmp y q)) r (λ y e. ap is_equal (o.congr y r q e)) xs up (sym (holds_any q xs up) ∙ h)

  -- the record that was put is there
  pub holds-new : (q r : R) (xs : List R) → Rising cmp xs → cmp r q ≡ Equal → holds cmp q (put cmp r xs) ≡ true
  holds-new q r xs up e = among_holds q (put cmp r xs) r (rises-put cmp o r xs up) (put_law cmp o r xs up).new e

  -- a record of another key than the dropped one's is there still
  pub holds-without : (q r : R) (xs : List R) → Rising cmp xs → (cmp r q ≡ Equal → ⊥) → holds cmp q xs ≡ true → holds cmp q (without cmp r xs) ≡ true
  holds-without q r xs up n h =
      let (y, m, e) = holds_among q xs up h in
      among_holds q (without cmp r xs) y (rises-without cmp o r xs up) ((drop_law cmp o r xs up).kept y m (λ k. n (sym (o.congr y r q k) ∙ e))) e

-- ---- how many records there are

long_by : (q : Ordering) (h : Bool) (n m : ℕ) → m ≡ cond h n (suc n) → by3 q (suc m) (suc n) (suc (suc n)) ≡ cond (by3 q h true false) (suc n) (suc (suc n))
long_by Less true n m e = ap suc e
long_by Less false n m e = ap suc e
long_by Equal h n m e = refl
long_by Greater h n m e = refl

length-by3 : {R : Type 0} (q : Ordering) (a b c : List R) → length (by3 q a b c) ≡ by3 q (length a) (length b) (length c)
length-by3 Less a b c = refl
length-by3 Equal a b c = refl
length-by3 Greater a b c = refl

pub length-put : {R : Type 0} (cmp : R → R → Ordering) (r : R) (xs : List R) → length (put cmp r xs) ≡ cond (holds cmp r xs) (length xs) (suc (length xs))
length-put cmp r [] = refl
length-put cmp r (x ∷ xs) =
    length-by3 (cmp x r) (x ∷ put cmp r xs) (r ∷ xs) (r ∷ x ∷ xs) ∙ long_by (cmp x r) (holds cmp r xs) (length xs) (length (put cmp r xs)) (length-put cmp r xs)

-- one less where the record is there, and the same list where it is not
abbrev Gone : {R : Type 0} → Bool → List R → List R → Type 0
Gone h w xs = (h ≡ true → suc (length w) ≡ length xs) × (h ≡ false → w ≡ xs)

gone_by : {R : Type 0} (q : Ordering) (h : Bool) (x : R) (w xs : List R) → Gone h w xs → Gone (by3 q h true false) (by3 q (x ∷ w) xs (x ∷ xs)) (x ∷ xs)
gone_by Less h x w xs g = ((λ e. ap suc (g.0 e)), (λ e. ap (λ l. x ∷ l) (g.1 e)))
gone_by Equal h x w xs g = ((λ e. refl), (λ e. absurd (both_ways true e refl)))
gone_by Greater h x w xs g = ((λ e. absurd (both_ways false refl e)), (λ e. refl))

gone : {R : Type 0} (cmp : R → R → Ordering) (r : R) (xs : List R) → Gone (holds cmp r xs) (without cmp r xs) xs
gone cmp r [] = ((λ e. absurd (both_ways false refl e)), (λ e. refl))
gone cmp r (x ∷ xs) = gone_by (cmp x r) (holds cmp r xs) x (without cmp r xs) xs (gone cmp r xs)

pub without-held : {R : Type 0} (cmp : R → R → Ordering) (r : R) (xs : List R) → holds cmp r xs ≡ true → suc (length (without cmp r xs)) ≡ length xs
without-held cmp r xs = (gone cmp r xs).0

pub without_absent : {R : Type 0} (cmp : R → R → Ordering) (r : R) (xs : List R) → holds cmp r xs ≡ false → without cmp r xs ≡ xs
without_absent cmp r xs = (gone cmp r xs).1

-- ---- a put on the rows

-- the list after a put on n places
abbrev pub put_on : {R : Type 0} → (R → R → Ordering) → R → ℕ → List R → List R
put_on cmp r n xs = cond (is_ok (put_rule cmp r n xs)) (put cmp r xs) xs

abbrev put_by : Bool → Bool → ℕ → Result ℕ Fault
put_by h b u = cond h (Ok u) (cond b (Ok (u + 1)) (Err TableFull))

reply_by : (h b : Bool) (u : ℕ) → plain (put_by h b u) ≡ demand TableFull (h || b)
reply_by true b u = refl
reply_by false true u = refl
reply_by false false u = refl

count_by : {R : Type 0} (h b : Bool) (p xs : List R) → length p ≡ cond h (length xs) (suc (length xs))
    → result_unwrap_or (put_by h b (length xs)) (length xs) ≡ length (cond (is_ok (put_by h b (length xs))) p xs)
count_by true b p xs e = sym e
count_by false true p xs e = omega arith
count_by false false p xs e = refl

fits_by : {R : Type 0} (h b : Bool) (n : ℕ) (p xs : List R) → length p ≡ cond h (length xs) (suc (length xs)) → length xs ≤ n → (b ≡ true → length xs < n)
    → length (cond (is_ok (put_by h b (length xs))) p xs) ≤ n
fits_by true b n p xs e le f = omega arith
fits_by false true n p xs e le f = omega (arith, f refl)
fits_by false false n p xs e le f = le

if_by : {R S : Type 0} (h b : Bool) (u : ℕ) (f : List R → S) (p xs : List R)
    → result_unwrap_or (and_then (demand TableFull (h || b)) (λ _. Ok (f p))) (f xs) ≡ f (cond (is_ok (put_by h b u)) p xs)
if_by true b u f p xs = refl
if_by false true u f p xs = refl
if_by false false u f p xs = refl

pub put_if : {R S : Type 0} (cmp : R → R → Ordering) (r : R) (n : ℕ) (f : List R → S) (xs : List R)
    → result_unwrap_or (and_then (room cmp r n xs) (λ _. Ok (f (put cmp r xs)))) (f xs) ≡ f (put_on cmp r n xs)
put_if cmp r n f xs = if_by (holds cmp r xs) (ltb (length xs) n) (length xs) f (put cmp r xs) xs

pub put-fits : {R : Type 0} (cmp : R → R → Ordering) (r : R) (n : ℕ) (xs : List R) → length xs ≤ n → length (put_on cmp r n xs) ≤ n
put-fits cmp r n xs le = fits_by (holds cmp r xs) (ltb (length xs) n) n (put cmp r xs) xs (length-put cmp r xs) le (ltb-true (length xs) n)

-- ---- a drop on the rows

pub drop_if : {R S : Type 0} (cmp : R → R → Ordering) (r : R) (f : List R → S) (xs : List R)
    → result_unwrap_or (and_then (demand RecordAbsent (holds cmp r xs)) (λ _. Ok (f (without cmp r xs)))) (f xs) ≡ f (without cmp r xs)
drop_if cmp r f xs = if (holds cmp r xs) (λ e. sym (without_absent cmp r xs e))
  where
    if : (h : Bool) → (h ≡ false → xs ≡ without cmp r xs) → result_unwrap_or (and_then (demand RecordAbsent h) (λ _. Ok (f (without cmp r xs)))) (f xs) ≡ f (without cmp r xs)
    if true g = refl
    if false g = ap f (g refl)

pub drop-fits : {R : Type 0} (cmp : R → R → Ordering) (r : R) (n : ℕ) (xs : List R) → length xs ≤ n → length (without cmp r xs) ≤ n
drop-fits cmp r n xs le =
    ⊎_elim (λ e. omega (arith, without-held cmp r xs e)) (λ e. omega (arith, ap length (without_absent cmp r xs e))) (cases_Bool (holds cmp r xs))

drop_reply_by : (h : Bool) (u : ℕ) → plain {E = Fault} (cond h (Ok u) (Err RecordAbsent)) ≡ demand RecordAbsent h
drop_reply_by true u = refl
drop_reply_by false u = refl

drop_count_by : (h : Bool) (u v : ℕ) → (h ≡ true → suc v ≡ u) → (h ≡ false → v ≡ u) → result_unwrap_or {E = Fault} (cond h (Ok (u - 1)) (Err RecordAbsent)) u ≡ v
drop_count_by true u v f g = omega (arith, f refl)
drop_count_by false u v f g = sym (g refl)

-- ---- both, by the lists that are laid out

-- a step that is refused only by its test
pub plain_then : {S : Type 0} (d : Result (Unit {0}) Fault) (t : S) → plain (and_then d (λ _. Ok t)) ≡ d
plain_then (Ok u) t = refl
plain_then (Err e) t = refl

module _ {R : Type 0} (cmp : R → R → Ordering) (o : IsTotalOrder cmp) (b r : R) (n : ℕ) (xs : List R) (le : length xs ≤ n) (up : Rising cmp xs) where
  pub put-reply : plain (put_answer cmp r (length xs) (laid b n xs)) ≡ room cmp r n xs
  put-reply = ap plain (laid_law cmp b o n r xs le up).put-answer ∙ reply_by (holds cmp r xs) (ltb (length xs) n) (length xs)

  pub put_count : result_unwrap_or (put_answer cmp r (length xs) (laid b n xs)) (length xs) ≡ length (put_on cmp r n xs)
  put_count =
      ap (λ (a : Result ℕ Fault). result_unwrap_or a (length xs)) (laid_law cmp b o n r xs le up).put-answer
      ∙ count_by (holds cmp r xs) (ltb (length xs) n) (put cmp r xs) xs (length-put cmp r xs)

  pub put-laid : put_rows cmp r (length xs) (laid b n xs) ≡ laid b n (put_on cmp r n xs)
  put-laid = (laid_law cmp b o n r xs le up).put-rows

  pub drop-reply : plain (drop_answer cmp r (length xs) (laid b n xs)) ≡ demand RecordAbsent (holds cmp r xs)
  drop-reply = ap plain (laid_law cmp b o n r xs le up).drop-answer ∙ drop_reply_by (holds cmp r xs) (length xs - 1)

  pub drop-count : result_unwrap_or (drop_answer cmp r (length xs) (laid b n xs)) (length xs) ≡ length (without cmp r xs)
  drop-count =
      ap (λ (a : Result ℕ Fault). result_unwrap_or a (length xs)) (laid_law cmp b o n r xs le up).drop-answer
      ∙ drop_count_by (holds cmp r xs) (length xs) (length (without cmp r xs)) (without-held cmp r xs) (λ e. ap length (without_absent cmp r xs e))

  pub drop-laid : drop_rows cmp b r (length xs) (laid b n xs) ≡ laid b n (without cmp r xs)
  drop-laid = (laid_law cmp b o n r xs le up).drop-rows
