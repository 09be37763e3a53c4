-- Runs of digits, as they are written and read.
use Rattle.std.proofs.Common.{◌≡◌, ℕ, zero, suc, ◌+◌, ◌-◌, ◌*◌, ◌/◌, ◌%◌, ◌^◌, ◌<◌, ◌≤◌, Bool, true, false, cond, ◌&&◌, eqb, leb, List, [], ◌∷◌, ◌++◌, length, drop, set, Some, None, Option, sym, refl, ap, ◌∙◌, subst, ⊎_elim, mod-eq_of_lt, arith}
use native.Mathlib.Nat.{div-eq_of_lt}
use Rattle.std.proofs.lemmas.List.{append-nil, length-append}
use Rattle.std.proofs.lemmas.Bool.{cond-true, cond-false, cond_both, and_from, and_parts, le-leb, leb-true, eqb-true, ne_eqb, or_from, cases_Bool}
use Rattle.std.specs.List.{prefix_len}
use Rattle.decimals.specs.Scan.{unblank, minus, unsigned, is_digit, digits_from, count, past}
use Rattle.decimals.specs.Number.{Digits, after_whole, digits_of_text, is_empty}
use Rattle.decimals.specs.Numeral.{numeral, tenths}
use Rattle.decimals.specs.Write.{fixed}
use Rattle.decimals.specs.Justify.{blanked, marked, justified}
use Rattle.decimals.specs.Grammar.{OnlyDigits}
use Rattle.decimals.proofs.Powers.{ten_mono}
use Rattle.decimals.proofs.Forms.{digits_from_lt}
use Rattle.decimals.proofs.Bounds.{count_le}
use Rattle.decimals.proofs.Fixed.{digit_of, length-fixed, fixed-value}

pub run-count : (ds r : List ℕ) → OnlyDigits ds → count (ds ++ r) ≡ length ds + count r
run-count [] r o = omega arith
run-count (c ∷ cs) r o = cond-true _ _ _ o.0 ∙ omega (arith, run-count cs r o.1)

pub run_past : (ds r : List ℕ) → OnlyDigits ds → past (ds ++ r) ≡ past r
run_past [] r o = refl
run_past (c ∷ cs) r o = cond-true _ _ _ o.0 ∙ run_past cs r o.1

pub run_value : (v : ℕ) (ds r : List ℕ) → OnlyDigits ds → digits_from v (ds ++ r) ≡ digits_from (digits_from v ds) r
run_value v [] r o = refl
run_value v (c ∷ cs) r o =
    let n : ℕ = v * 10 + (c - 48) in
    cond-true _ _ _ o.0 ∙ (run_value n cs r o.1 ∙ ap (λ x. digits_from x r) (sym (cond-true _ _ _ o.0)))

pub only-fixed : (k m : ℕ) → OnlyDigits (fixed k m)
only-fixed zero m = tt
only-fixed (suc k) m = (digit_of (m / 10 ^ k), only-fixed k m)

pub fixed_number : (k m : ℕ) → digits_from 0 (fixed k m) ≡ m % 10 ^ k
fixed_number k m = ap (digits_from 0) (sym (append-nil (fixed k m))) ∙ (fixed-value 0 k m [] ∙ omega arith)

-- a digit is no blank, no sign and no point
pub digit_range : (c : ℕ) → is_digit c ≡ true → (48 ≤ c) × (c ≤ 57)
digit_range c d = let p = and_parts (leb 48 c) (leb c 57) d in (leb-true 48 c p.0, leb-true c 57 p.1)

pub digit_front : (c : ℕ) (t : List ℕ) → is_digit c ≡ true → (unblank (c ∷ t) ≡ c ∷ t) × (minus (c ∷ t) ≡ false) × (unsigned (c ∷ t) ≡ c ∷ t)
digit_front c t d =
    let h = digit_range c d in
    let a : eqb c 32 ≡ false = ne_eqb c 32 (λ z. omega (arith, h.0)) in
    let b : eqb c 45 ≡ false = ne_eqb c 45 (λ z. omega (arith, h.0)) in
    let e : eqb c 43 ≡ false = ne_eqb c 43 (λ z. omega (arith, h.0)) in
    (cond-false _ _ _ a, b, cond-false _ _ _ (or_from (eqb c 45) (eqb c 43) b e))

pub numeral-run : (ds : List ℕ) → OnlyDigits ds → 1 ≤ length ds → length ds ≤ 9 → numeral ds ≡ Some (digits_from 0 ds)
numeral-run ds o a b =
    let p : past ds ≡ [] = ap past (sym (append-nil ds)) ∙ run_past ds [] o in
    cond-true _ _ _ (and_from (leb 1 (length ds)) (leb (length ds) 9 && is_empty (past ds)) (le-leb 1 (length ds) a)
    (and_from (leb (length ds) 9) (is_empty (past ds)) (le-leb (length ds) 9 b) (ap is_empty p)))

pub numeral-fixed : (k m : ℕ) → 1 ≤ k → k ≤ 9 → numeral (fixed k m) ≡ Some (m % 10 ^ k)
numeral-fixed k m a b =
    let l = length-fixed k m in
    numeral-run (fixed k m) (only-fixed k m) (omega (arith, l)) (omega (arith, l)) ∙ ap Some (fixed_number k m)

-- digits, a point and one digit
pub tenths-run : (ds : List ℕ) (y : ℕ) → OnlyDigits ds → is_digit y ≡ true → 1 ≤ length ds → length ds ≤ 7 → tenths (ds ++ (46 ∷ (y ∷ []))) ≡ Some (digits_from 0 ds * 10 + (y - 48))
tenths-run ds y o d a b =
    let r : List ℕ = 46 ∷ (y ∷ []) in
    let n : ℕ = digits_from 0 ds in
    let t : List ℕ = ds ++ r in
    let v : digits_from 0 t ≡ n = run_value 0 ds r o in
    let m : count t ≡ length ds = run-count ds r o ∙ omega arith in
    let p : past t ≡ r = run_past ds r o in
    let v' : digits_from n (y ∷ []) ≡ n * 10 + (y - 48) = cond-true _ _ _ d in
    let m' : count (y ∷ []) ≡ 1 = cond-true _ _ _ d in
    let p' : past (y ∷ []) ≡ [] = cond-true _ _ _ d in
    let e : digits_of_text t ≡ record { value = n * 10 + (y - 48); count = length ds + 1; places = 1; rest = [] } =
    ap (λ x. after_whole x (count t) (past t)) v
    ∙ (ap (λ x. after_whole n x (past t)) m
    ∙ (ap (λ x. after_whole n (length ds) x) p
    ∙ (ap (λ x. record { value = x; count = length ds + count (y ∷ []); places = count (y ∷ []); rest = past (y ∷ []) }) v'
    ∙ (ap (λ x. record { value = n * 10 + (y - 48); count = length ds + x; places = x; rest = past (y ∷ []) }) m'
    ∙ ap (λ x. record { value = n * 10 + (y - 48); count = length ds + 1; places = 1; rest = x }) p')))) in
    let l : length t ≤ 9 = omega (arith, length-append ds r) in
    ap (λ (x : Digits). cond (leb (length t) 9 && (leb 2 x.count && (eqb x.places 1 && is_empty x.rest))) (Some x.value) None) e
    ∙ cond-true _ _ _ (and_from (leb (length t) 9) (leb 2 (length ds + 1) && true) (le-leb (length t) 9 l) (and_from (leb 2 (length ds + 1)) true (le-leb 2 (length ds + 1) (omega arith)) refl))

-- ---- numbers on the right of their columns

-- the digits that are shown of a run ds, before r
pub record Shown (ds r : List ℕ) : Type 0 where
  pub digits : List ℕ
  pub only : OnlyDigits digits
  pub some : 1 ≤ length digits
  pub few : length digits ≤ length ds
  pub value : digits_from 0 digits ≡ digits_from 0 ds
  pub read : unblank (blanked ds ++ r) ≡ digits ++ r

whole_run : (c : ℕ) (cs r : List ℕ) → OnlyDigits (c ∷ cs) → blanked (c ∷ cs) ≡ c ∷ cs → Shown (c ∷ cs) r
whole_run c cs r o e = record { digits = c ∷ cs; only = o; some = omega arith; few = omega arith; value = refl; read = ap (λ t. unblank (t ++ r)) e ∙ (digit_front c (cs ++ r) o.0).0 }

pub blanked_read : (ds r : List ℕ) → OnlyDigits ds → 1 ≤ length ds → Shown ds r
blanked_read [] r o h = absurd (omega arith)
blanked_read (c ∷ []) r o h = whole_run c [] r o refl
blanked_read (c ∷ (d ∷ ds)) r o h =
    ⊎_elim
    (λ t.
    let s = blanked_read (d ∷ ds) r o.1 (omega arith) in
    let z : c ≡ 48 = eqb-true c 48 t in
    record {
      digits = s.digits;
      only = s.only;
      some = s.some;
      few = omega (arith, s.few);
      value = s.value ∙ ap (λ x. digits_from 0 (x ∷ (d ∷ ds))) (sym z);
      read = ap (λ t. unblank (t ++ r)) (cond-true (eqb c 48) (32 ∷ blanked (d ∷ ds)) (c ∷ (d ∷ ds)) t) ∙ s.read;
    })
    (λ f. whole_run c (d ∷ ds) r o (cond-false _ _ _ f))
    (cases_Bool (eqb c 48))

-- the same with a minus sign, where the first digit is a zero
pub record Marked (ds r : List ℕ) : Type 0 where
  pub digits : List ℕ
  pub only : OnlyDigits digits
  pub some : 1 ≤ length digits
  pub few : length digits ≤ length ds
  pub value : digits_from 0 digits ≡ digits_from 0 ds
  pub read : unblank (marked (blanked ds) ++ r) ≡ 45 ∷ (digits ++ r)

-- the blank just before the digits gives place to the sign
last-blank : (d : ℕ) (ds r : List ℕ) → OnlyDigits (d ∷ ds) → blanked (d ∷ ds) ≡ d ∷ ds → Marked (48 ∷ (d ∷ ds)) r
last-blank d ds r o e =
    let n : eqb d 32 ≡ false = ne_eqb d 32 (λ z. omega (arith, (digit_range d o.0).0)) in
    let m : marked (32 ∷ (d ∷ ds)) ≡ 45 ∷ (d ∷ ds) = cond-false _ _ _ n in
    record {
      digits = d ∷ ds;
      only = o;
      some = omega arith;
      few = omega arith;
      value = refl;
      read = ap (λ t. unblank (marked (32 ∷ t) ++ r)) e ∙ ap (λ t. unblank (t ++ r)) m;
    }

marked_zero : (d : ℕ) (ds r : List ℕ) → OnlyDigits (d ∷ ds) → Marked (48 ∷ (d ∷ ds)) r
marked_zero d [] r o = last-blank d [] r o refl
marked_zero d (e ∷ es) r o =
    ⊎_elim
    (λ t.
    let z : d ≡ 48 = eqb-true d 48 t in
    let s = marked_zero e es r o.1 in
    record {
      digits = s.digits;
      only = s.only;
      some = s.some;
      few = omega (arith, s.few);
      value = s.value ∙ ap (λ x. digits_from 0 (48 ∷ (x ∷ (e ∷ es)))) (sym z);
      read = ap (λ x. unblank (marked (blanked (48 ∷ (x ∷ (e ∷ es)))) ++ r)) z ∙ s.read;
    })
    (λ f. last-blank d (e ∷ es) r o (cond-false _ _ _ f))
    (cases_Bool (eqb d 48))

pub record Justified (neg : Bool) (w n : ℕ) (r : List ℕ) : Type 0 where
  pub digits : List ℕ
  pub only : OnlyDigits digits
  pub some : 1 ≤ length digits
  pub few : length digits ≤ w
  pub value : digits_from 0 digits ≡ n
  pub sign : minus (unblank (justified neg w n ++ r)) ≡ neg
  pub rest : unsigned (unblank (justified neg w n ++ r)) ≡ digits ++ r

front_of : (es r : List ℕ) → OnlyDigits es → 1 ≤ length es → (minus (es ++ r) ≡ false) × (unsigned (es ++ r) ≡ es ++ r)
front_of [] r o h = absurd (omega arith)
front_of (c ∷ cs) r o h = let f = digit_front c (cs ++ r) o.0 in (f.1, f.2)

-- a number on the right of w columns, with no sign: all of its digits are shown
pub right_shown : (w n : ℕ) (r : List ℕ) → 1 ≤ w → Shown (fixed w n) r
right_shown w n r h = blanked_read (fixed w n) r (only-fixed w n) (omega (arith, length-fixed w n))

pub justified-plain : (w n : ℕ) (r : List ℕ) → 1 ≤ w → n < 10 ^ w → Justified false w n r
justified-plain w n r h l =
    let s = right_shown w n r h in
    let f = front_of s.digits r s.only s.some in
    record {
      digits = s.digits;
      only = s.only;
      some = s.some;
      few = omega (arith, s.few, length-fixed w n);
      value = s.value ∙ (fixed_number w n ∙ mod-eq_of_lt l);
      sign = ap minus s.read ∙ f.0;
      rest = ap unsigned s.read ∙ f.1;
    }

-- with a sign there is a column less for the digits
justified-minus : (w n : ℕ) (r : List ℕ) → n < 10 ^ (w + 1) → Justified true (w + 2) n r
justified-minus w n r l =
    let two : w + 2 ≡ suc (suc w) = omega arith in
    let one : w + 1 ≡ suc w = omega arith in
    let l' : n < 10 ^ suc w = subst (λ k. n < 10 ^ k) one l in
    let z : 48 + n / 10 ^ suc w % 10 ≡ 48 = ap (λ x. 48 + x % 10) (div-eq_of_lt l') in
    let f : fixed (w + 2) n ≡ 48 ∷ fixed (suc w) n = ap (λ k. fixed k n) two ∙ ap (λ x. x ∷ fixed (suc w) n) z in
    let s = marked_zero (48 + n / 10 ^ w % 10) (fixed w n) r (only-fixed (suc w) n) in
    let e : unblank (justified true (w + 2) n ++ r) ≡ 45 ∷ (s.digits ++ r) = ap (λ t. unblank (marked (blanked t) ++ r)) f ∙ s.read in
    let g : n < 10 ^ (w + 2) = subst (λ x. n < x) (sym (ap (λ k. 10 ^ k) two)) (omega (arith, l', ten_mono (suc w) (suc (suc w)) (omega arith))) in
    record {
      digits = s.digits;
      only = s.only;
      some = s.some;
      few = omega (arith, s.few, length-fixed (suc w) n);
      value = s.value ∙ (ap (digits_from 0) (sym f) ∙ (fixed_number (w + 2) n ∙ mod-eq_of_lt g));
      sign = ap minus e;
      rest = ap unsigned e;
    }

pub justified_read : (neg : Bool) (w n : ℕ) (r : List ℕ) → n < 10 ^ (w + 1) → Justified neg (w + 2) n r
justified_read true w n r l = justified-minus w n r l
justified_read false w n r l = justified-plain (w + 2) n r (omega arith) (omega (arith, l, ten_mono (w + 1) (w + 2) (omega arith)))

-- without a sign
pub right_numeral : (w n : ℕ) → 1 ≤ w → w ≤ 9 → n < 10 ^ w → numeral (unblank (justified false w n)) ≡ Some n
right_numeral w n a b l =
    let s = right_shown w n [] a in
    let e : unblank (blanked (fixed w n)) ≡ s.digits = ap unblank (sym (append-nil (blanked (fixed w n)))) ∙ (s.read ∙ append-nil s.digits) in
    ap numeral e ∙ (numeral-run s.digits s.only s.some (omega (arith, s.few, length-fixed w n)) ∙ ap Some (s.value ∙ (fixed_number w n ∙ mod-eq_of_lt l)))

-- ---- how they are written

pub blanked_short : (xs : List ℕ) → length xs ≤ 1 → blanked xs ≡ xs
blanked_short [] h = refl
blanked_short (c ∷ []) h = refl
blanked_short (c ∷ (d ∷ ds)) h = absurd (omega arith)

-- a minus sign in the place behind the blanks but one
pub marked_is : (xs : List ℕ) → set xs (prefix_len (λ c. eqb c 32) (drop 1 xs)) 45 ≡ marked xs
marked_is [] = refl
marked_is (c ∷ []) = refl
marked_is (c ∷ (d ∷ ds)) =
    let one : 1 + prefix_len (λ c. eqb c 32) ds ≡ suc (prefix_len (λ c. eqb c 32) ds) = omega arith in
    let put : ℕ → List ℕ = λ k. set (c ∷ (d ∷ ds)) k 45 in
    ⊎_elim
    (λ t. ap put (cond-true _ _ _ t ∙ one) ∙ (ap (λ l. c ∷ l) (marked_is (d ∷ ds)) ∙ sym (cond-true _ _ _ t)))
    (λ f. ap put (cond-false _ _ _ f) ∙ sym (cond-false _ _ _ f))
    (cases_Bool (eqb d 32))

-- ---- how large they are

abbrev pub Below : ℕ → Option ℕ → Type 0
Below b None = Unit {0}
Below b (Some n) = n < b

digits-below : (t : List ℕ) (k : ℕ) → length t ≤ k → digits_from 0 t < 10 ^ k
digits-below t k h = omega (arith, digits_from_lt 0 t, ten_mono (count t) k (omega (arith, count_le t)))

pub numeral-below : (t : List ℕ) (k : ℕ) → length t ≤ k → Below (10 ^ k) (numeral t)
numeral-below t k h = cond_both (leb 1 (length t) && (leb (length t) 9 && is_empty (past t))) (Some (digits_from 0 t)) None (Below (10 ^ k)) (λ _. digits-below t k h) (λ _. tt)

-- ---- how long they are

length-blanked : (ds : List ℕ) → length (blanked ds) ≡ length ds
length-blanked [] = refl
length-blanked (c ∷ []) = refl
length-blanked (c ∷ (d ∷ ds)) = cond_both (eqb c 48) (32 ∷ blanked (d ∷ ds)) (c ∷ (d ∷ ds)) (λ t. length t ≡ suc (suc (length ds))) (λ _. ap suc (length-blanked (d ∷ ds))) (λ _. refl)

length_marked : (t : List ℕ) → length (marked t) ≡ length t
length_marked [] = refl
length_marked (c ∷ []) = refl
length_marked (c ∷ (d ∷ ds)) = cond_both (eqb d 32) (c ∷ marked (d ∷ ds)) (45 ∷ (d ∷ ds)) (λ t. length t ≡ suc (suc (length ds))) (λ _. ap suc (length_marked (d ∷ ds))) (λ _. refl)

pub length-justified : (neg : Bool) (w n : ℕ) → length (justified neg w n) ≡ w
length-justified true w n = length_marked (blanked (fixed w n)) ∙ (length-blanked (fixed w n) ∙ length-fixed w n)
length-justified false w n = length-blanked (fixed w n) ∙ length-fixed w n
