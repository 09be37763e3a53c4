-- The texts that say a number are those of well-formed parts.
use Rattle.std.proofs.Common.{◌≡◌, ℕ, zero, suc, ◌+◌, ◌≤◌, Bool, true, false, cond, ◌&&◌, ◌||◌, eqb, leb, ◌⊎◌, List, [], ◌∷◌, ◌++◌, length, replicate, ℤ, pos, ◌-ℤ◌, Some, None, Option, sym, refl, ap, ◌∙◌, subst, inl, inr, ⊎_elim, arith}
use Rattle.std.specs.Option.{option_map}
use Rattle.std.proofs.lemmas.List.{append-nil}
use Rattle.std.proofs.lemmas.Bool.{cond-true, cond-false, cases_Bool, eqb-true, eqb-false, or_cases, and_parts, leb-true}
use Rattle.decimals.specs.Scan.{unblank, minus, unsigned, is_digit, digits_from, count, past}
use Rattle.decimals.specs.Number.{Digits, Said, after_whole, digits_of_text, blank, exponent, exponent_digits, signed, said, said_by}
use Rattle.decimals.specs.Grammar.{OnlyDigits, Sign, Parts, Mantissa, Power, NoPower, WellFormed, spelled, meant, NumbersHaveForm}
use Rattle.decimals.proofs.Faults.{nothing}
use Rattle.decimals.proofs.Forms.{exponent_yes}
use Rattle.decimals.proofs.Reading.{said_by-some}
use Rattle.decimals.proofs.Runs.{run-count, run_past, run_value, digit_front}
use Rattle.decimals.proofs.Blanks.{unblank-blanks, blank-blanks, unblank-split, blank_is}

-- ---- texts of well-formed parts say what the parts mean

-- what neither a blank nor a sign stands in front of
pub record Plain (b : List ℕ) : Type 0 where
  pub blanks : unblank b ≡ b
  pub minus : minus b ≡ false
  pub sign : unsigned b ≡ b

digits-plain : (ds r : List ℕ) → OnlyDigits ds → 1 ≤ length ds → Plain (ds ++ r)
digits-plain [] r o h = absurd (omega arith)
digits-plain (c ∷ cs) r o h = let f = digit_front c (cs ++ r) o.0 in record { blanks = f.0; minus = f.1; sign = f.2 }

pub record SignRead (sg b : List ℕ) : Type 0 where
  pub blanks : unblank (sg ++ b) ≡ sg ++ b
  pub minus : minus (sg ++ b) ≡ minus sg
  pub rest : unsigned (sg ++ b) ≡ b

sign_read : (sg b : List ℕ) → Sign sg → Plain b → SignRead sg b
sign_read sg b (inl e) p = subst (λ s. SignRead s b) (sym e) (record { blanks = p.blanks; minus = p.minus; rest = p.sign })
sign_read sg b (inr (inl e)) p = subst (λ s. SignRead s b) (sym e) (record { blanks = refl; minus = refl; rest = refl })
sign_read sg b (inr (inr e)) p = subst (λ s. SignRead s b) (sym e) (record { blanks = refl; minus = refl; rest = refl })

-- what follows the mantissa
pub record Ending (t : List ℕ) (e : ℤ) : Type 0 where
  pub count : count t ≡ 0
  pub past : past t ≡ t
  pub value : (v : ℕ) → digits_from v t ≡ v
  pub plain : (v n : ℕ) → after_whole v n t ≡ record { value = v; count = n; places = 0; rest = t }
  pub read : exponent t ≡ Some e

blanks-end : (n : ℕ) → Ending (replicate n 32) (pos 0)
blanks-end zero = record { count = refl; past = refl; value = λ v. refl; plain = λ v n. refl; read = refl }
blanks-end (suc n) = record { count = refl; past = refl; value = λ v. refl; plain = λ v n. refl; read = cond-true _ _ _ (blank-blanks n) }

power-digits : (neg : Bool) (ds : List ℕ) (n : ℕ) → OnlyDigits ds → 1 ≤ length ds → length ds ≤ 2 → exponent_digits neg (ds ++ replicate n 32) ≡ Some (signed neg (digits_from 0 ds))
power-digits neg ds n o a b =
    let bl : List ℕ = replicate n 32 in
    let e = blanks-end n in
    let m : count (ds ++ bl) ≡ length ds = run-count ds bl o ∙ omega (arith, e.count) in
    let p : past (ds ++ bl) ≡ bl = run_past ds bl o ∙ e.past in
    let v : digits_from 0 (ds ++ bl) ≡ digits_from 0 ds = run_value 0 ds bl o ∙ e.value (digits_from 0 ds) in
    exponent_yes neg (ds ++ bl) (omega (arith, m)) (omega (arith, m)) (ap blank p ∙ blank-blanks n) ∙ ap (λ x. Some (signed neg x)) v

after-letter : (sg ds : List ℕ) (n : ℕ) → Sign sg → OnlyDigits ds → 1 ≤ length ds → length ds ≤ 2
    → exponent_digits (minus (sg ++ (ds ++ replicate n 32))) (unsigned (sg ++ (ds ++ replicate n 32))) ≡ Some (signed (minus sg) (digits_from 0 ds))
after-letter sg ds n s o a b =
    let r = sign_read sg (ds ++ replicate n 32) s (digits-plain ds (replicate n 32) o a) in
    ap (λ x. exponent_digits x (unsigned (sg ++ (ds ++ replicate n 32)))) r.minus
    ∙ (ap (exponent_digits (minus sg)) r.rest ∙ power-digits (minus sg) ds n o a b)

-- the text after the mantissa, and the power that it says
abbrev ending_of : Parts → List ℕ
ending_of p = p.letter ++ (p.power_sign ++ (p.power ++ replicate p.after 32))

abbrev power_of : Parts → ℤ
power_of p = signed (minus p.power_sign) (digits_from 0 p.power)

ending : (p : Parts) → Power p ⊎ NoPower p → Ending (ending_of p) (power_of p)
ending p (inr (a, b, c)) =
    subst (λ t. Ending (t ++ (p.power_sign ++ (p.power ++ replicate p.after 32))) (power_of p)) (sym a)
    (subst (λ t. Ending (t ++ (p.power ++ replicate p.after 32)) (signed (minus t) (digits_from 0 p.power))) (sym b)
    (subst (λ t. Ending (t ++ replicate p.after 32) (signed false (digits_from 0 t))) (sym c) (blanks-end p.after)))
ending p (inl w) =
    let t : List ℕ = p.power_sign ++ (p.power ++ replicate p.after 32) in
    let r = after-letter p.power_sign p.power p.after w.sign w.digits w.some w.few in
    ⊎_elim
    (λ e. subst (λ l. Ending (l ++ t) (power_of p)) (sym e) (record { count = refl; past = refl; value = λ v. refl; plain = λ v n. refl; read = r }))
    (λ e. subst (λ l. Ending (l ++ t) (power_of p)) (sym e) (record { count = refl; past = refl; value = λ v. refl; plain = λ v n. refl; read = r }))
    w.letter

-- the digits of a mantissa before an ending
with_point : (ws fs t : List ℕ) (e : ℤ) → OnlyDigits ws → OnlyDigits fs → Ending t e
    → digits_of_text (ws ++ (46 ∷ (fs ++ t))) ≡ record { value = digits_from 0 (ws ++ fs); count = length ws + length fs; places = length fs; rest = t }
with_point ws fs t e a b w =
    let u : List ℕ = fs ++ t in
    let x : List ℕ = ws ++ (46 ∷ u) in
    let v : ℕ = digits_from 0 ws in
    let f : digits_from v u ≡ digits_from 0 (ws ++ fs) = run_value v fs t b ∙ (w.value (digits_from v fs) ∙ sym (run_value 0 ws fs a)) in
    let n : count u ≡ length fs = run-count fs t b ∙ omega (arith, w.count) in
    let p : past u ≡ t = run_past fs t b ∙ w.past in
    ap (λ y. after_whole y (count x) (past x)) (run_value 0 ws (46 ∷ u) a)
    ∙ (ap (λ y. after_whole v y (past x)) (run-count ws (46 ∷ u) a ∙ omega arith)
    ∙ (ap (after_whole v (length ws)) (run_past ws (46 ∷ u) a)
    ∙ (ap (λ y. record { value = y; count = length ws + count u; places = count u; rest = past u }) f
    ∙ (ap (λ y. record { value = digits_from 0 (ws ++ fs); count = length ws + y; places = y; rest = past u }) n
    ∙ ap (λ y. record { value = digits_from 0 (ws ++ fs); count = length ws + length fs; places = length fs; rest = y }) p))))

without-point : (ws t : List ℕ) (e : ℤ) → OnlyDigits ws → Ending t e
    → digits_of_text (ws ++ t) ≡ record { value = digits_from 0 (ws ++ []); count = length ws + 0; places = 0; rest = t }
without-point ws t e a w =
    let x : List ℕ = ws ++ t in
    let v : ℕ = digits_from 0 ws in
    ap (λ y. after_whole y (count x) (past x)) (run_value 0 ws t a ∙ w.value v)
    ∙ (ap (λ y. after_whole v y (past x)) (run-count ws t a ∙ ap (λ k. length ws + k) w.count)
    ∙ (ap (after_whole v (length ws + 0)) (run_past ws t a ∙ w.past)
    ∙ (w.plain v (length ws + 0)
    ∙ ap (λ y. record { value = digits_from 0 y; count = length ws + 0; places = 0; rest = t }) (sym (append-nil ws)))))

abbrev mantissa_of : Parts → List ℕ
mantissa_of p = p.whole ++ (p.point ++ (p.fraction ++ ending_of p))

abbrev DigitsRead : Parts → List ℕ → List ℕ → Type 0
DigitsRead p point fs = digits_of_text (p.whole ++ (point ++ (fs ++ ending_of p))) ≡ record { value = digits_from 0 (p.whole ++ fs); count = length p.whole + length fs; places = length fs; rest = ending_of p }

mantissa-digits : (p : Parts) → Mantissa p → Ending (ending_of p) (power_of p) → DigitsRead p p.point p.fraction
mantissa-digits p m w =
    ⊎_elim
    (λ e. subst (λ x. DigitsRead p x p.fraction) (sym e) (with_point p.whole p.fraction (ending_of p) (power_of p) m.whole m.fraction w))
    (λ e. subst (λ x. DigitsRead p x p.fraction) (sym e.0) (subst (λ x. DigitsRead p [] x) (sym e.1) (without-point p.whole (ending_of p) (power_of p) m.whole w)))
    m.point

-- a mantissa begins with a digit or a point
begin : (ws point fs t : List ℕ) → OnlyDigits ws → (point ≡ 46 ∷ []) ⊎ ((point ≡ []) × (fs ≡ [])) → 1 ≤ length ws + length fs → Plain (ws ++ (point ++ (fs ++ t)))
begin (c ∷ cs) point fs t o q h = digits-plain (c ∷ cs) (point ++ (fs ++ t)) o (omega arith)
begin [] point fs t o (inl e) h = subst (λ x. Plain (x ++ (fs ++ t))) (sym e) (record { blanks = refl; minus = refl; sign = refl })
begin [] point fs t o (inr e) h = absurd (omega (arith, ap length e.1))

form-said : (p : Parts) → WellFormed p → said (spelled p) ≡ Some (meant p)
form-said p w =
    let m = w.mantissa in
    let e = ending p w.exponent in
    let b : List ℕ = mantissa_of p in
    let r = sign_read p.sign b w.sign (begin p.whole p.point p.fraction (ending_of p) m.whole m.point m.some) in
    let u : unblank (spelled p) ≡ p.sign ++ b = unblank-blanks p.before (p.sign ++ b) ∙ r.blanks in
    let d : Digits = record { value = digits_from 0 (p.whole ++ p.fraction); count = length p.whole + length p.fraction; places = length p.fraction; rest = ending_of p } in
    ap (λ t. said_by (minus t) (digits_of_text (unsigned t))) u
    ∙ (ap (λ x. said_by x (digits_of_text (unsigned (p.sign ++ b)))) r.minus
    ∙ (ap (λ t. said_by (minus p.sign) (digits_of_text t)) r.rest
    ∙ (ap (said_by (minus p.sign)) (mantissa-digits p m e)
    ∙ said_by-some (minus p.sign) d (power_of p) (λ z. omega (arith, m.some)) e.read)))

-- ---- a text that says something has such parts

sign-split : (u : List ℕ) → (sg : List ℕ) × Sign sg × (u ≡ sg ++ unsigned u)
sign-split [] = ([], inl refl, refl)
sign-split (c ∷ cs) =
    ⊎_elim
    (λ t.
    let e : unsigned (c ∷ cs) ≡ cs = cond-true _ _ _ t in (
      c ∷ [],
      ⊎_elim (λ y. inr (inr (ap (λ x. x ∷ []) (eqb-true c 45 y)))) (λ y. inr (inl (ap (λ x. x ∷ []) (eqb-true c 43 y)))) (or_cases (eqb c 45) (eqb c 43) t),
      ap (λ x. c ∷ x) (sym e),
    ))
    (λ f. ([], inl refl, sym (cond-false _ _ _ f)))
    (cases_Bool (eqb c 45 || eqb c 43))

-- the digits in front
pub record Run (t : List ℕ) : Type 0 where
  pub digits : List ℕ
  pub only : OnlyDigits digits
  pub size : length digits ≡ count t
  pub is : t ≡ digits ++ past t

run-split : (t : List ℕ) → Run t
run-split [] = record { digits = []; only = tt; size = refl; is = refl }
run-split (c ∷ cs) =
    ⊎_elim
    (λ y.
    let r = run-split cs in
    let n : count (c ∷ cs) ≡ 1 + count cs = cond-true _ _ _ y in
    let p : past (c ∷ cs) ≡ past cs = cond-true _ _ _ y in
    record { digits = c ∷ r.digits; only = (y, r.only); size = omega (arith, n, r.size); is = ap (λ x. c ∷ x) (r.is ∙ ap (λ x. r.digits ++ x) (sym p)) })
    (λ f. record { digits = []; only = tt; size = sym (cond-false _ _ _ f); is = sym (cond-false _ _ _ f) })
    (cases_Bool (is_digit c))

-- the mantissa of a text t, before what digits_of_text leaves
pub record Front (t : List ℕ) (d : Digits) : Type 0 where
  pub whole : List ℕ
  pub point : List ℕ
  pub fraction : List ℕ
  pub wholes : OnlyDigits whole
  pub fractions : OnlyDigits fraction
  pub points : (point ≡ 46 ∷ []) ⊎ ((point ≡ []) × (fraction ≡ []))
  pub size : length whole + length fraction ≡ d.count
  pub is : t ≡ whole ++ (point ++ (fraction ++ d.rest))

front_from : (t : List ℕ) (v : ℕ) (r : Run t) (u : List ℕ) → past t ≡ u → Front t (after_whole v (count t) u)
front_from t v r [] e = record {
  whole = r.digits;
  point = [];
  fraction = [];
  wholes = r.only;
  fractions = tt;
  points = inr (refl, refl);
  size = omega (arith, r.size);
  is = r.is ∙ ap (λ x. r.digits ++ x) e;
}
front_from t v r (c ∷ cs) e =
    ⊎_elim
    (λ y.
    let q = run-split cs in
    subst (Front t) (sym (cond-true {A = Digits} (eqb c 46) (record { value = digits_from v cs; count = count t + count cs; places = count cs; rest = past cs }) (record { value = v; count = count t; places = 0; rest = c ∷ cs }) y))
    (record {
      whole = r.digits;
      point = 46 ∷ [];
      fraction = q.digits;
      wholes = r.only;
      fractions = q.only;
      points = inl refl;
      size = omega (arith, r.size, q.size);
      is = r.is ∙ ap (λ x. r.digits ++ x) (e ∙ (ap (λ x. x ∷ cs) (eqb-true c 46 y) ∙ ap (λ x. 46 ∷ x) q.is));
    }))
    (λ f.
    subst (Front t) (sym (cond-false {A = Digits} (eqb c 46) (record { value = digits_from v cs; count = count t + count cs; places = count cs; rest = past cs }) (record { value = v; count = count t; places = 0; rest = c ∷ cs }) f))
    (record {
      whole = r.digits;
      point = [];
      fraction = [];
      wholes = r.only;
      fractions = tt;
      points = inr (refl, refl);
      size = omega (arith, r.size);
      is = r.is ∙ ap (λ x. r.digits ++ x) e;
    }))
    (cases_Bool (eqb c 46))

front_split : (t : List ℕ) → Front t (digits_of_text t)
front_split t = front_from t (digits_from 0 t) (run-split t) (past t) refl

-- what an exponent or blanks are made of
pub record Back (t : List ℕ) : Type 0 where
  pub letter : List ℕ
  pub sign : List ℕ
  pub power : List ℕ
  pub after : ℕ
  pub is : t ≡ letter ++ (sign ++ (power ++ replicate after 32))
  pub form : (((letter ≡ 69 ∷ []) ⊎ (letter ≡ 101 ∷ [])) × Sign sign × OnlyDigits power × (1 ≤ length power) × (length power ≤ 2)) ⊎ ((letter ≡ []) × (sign ≡ []) × (power ≡ []))

blanks-back : (t : List ℕ) → blank t ≡ true → Back t
blanks-back t e = let b = blank_is t e in record { letter = []; sign = []; power = []; after = b.0; is = b.1; form = inr (refl, refl, refl) }

letter-back : (c : ℕ) (cs : List ℕ) (e : ℤ) → (c ≡ 69) ⊎ (c ≡ 101) → exponent_digits (minus cs) (unsigned cs) ≡ Some e → Back (c ∷ cs)
letter-back c cs e l x =
    let s = sign-split cs in
    let u = unsigned cs in
    let r = run-split u in
    ⊎_elim
    (λ y.
    let p = and_parts (leb 1 (count u) && leb (count u) 2) (blank (past u)) y in
    let q = and_parts (leb 1 (count u)) (leb (count u) 2) p.0 in
    let b = blank_is (past u) p.1 in
    record {
      letter = c ∷ [];
      sign = s.0;
      power = r.digits;
      after = b.0;
      is = ap (λ t. c ∷ t) (s.2 ∙ ap (λ t. s.0 ++ t) (r.is ∙ ap (λ t. r.digits ++ t) b.1));
      form = inl (⊎_elim (λ z. inl (ap (λ k. k ∷ []) z)) (λ z. inr (ap (λ k. k ∷ []) z)) l, s.1, r.only, omega (arith, r.size, leb-true 1 (count u) q.0), omega (arith, r.size, leb-true (count u) 2 q.1));
    })
    (λ f. absurd (nothing e (sym (cond-false (leb 1 (count u) && leb (count u) 2 && blank (past u)) (Some (signed (minus cs) (digits_from 0 u))) None f) ∙ x)))
    (cases_Bool (leb 1 (count u) && leb (count u) 2 && blank (past u)))

back-split : (t : List ℕ) (e : ℤ) → exponent t ≡ Some e → Back t
back-split [] e x = blanks-back [] refl
back-split (c ∷ cs) e x =
    ⊎_elim
    (λ y. letter-back c cs e (⊎_elim (λ z. inl (eqb-true c 69 z)) (λ z. inr (eqb-true c 101 z)) (or_cases (eqb c 69) (eqb c 101) y))
    (sym (cond-true (eqb c 69 || eqb c 101) (exponent_digits (minus cs) (unsigned cs)) (cond (blank (c ∷ cs)) (Some (pos 0)) None) y) ∙ x))
    (λ f.
    let g : cond (blank (c ∷ cs)) (Some (pos 0)) None ≡ Some e = sym (cond-false (eqb c 69 || eqb c 101) (exponent_digits (minus cs) (unsigned cs)) (cond (blank (c ∷ cs)) (Some (pos 0)) None) f) ∙ x in
    ⊎_elim (λ y. blanks-back (c ∷ cs) y) (λ n. absurd (nothing e (sym (cond-false (blank (c ∷ cs)) (Some (pos 0)) None n) ∙ g))) (cases_Bool (blank (c ∷ cs))))
    (cases_Bool (eqb c 69 || eqb c 101))

-- a mantissa that says something has a digit and an exponent in due form
some_mapped : (f : ℤ → Said) (o : Option ℤ) (s : Said) → option_map f o ≡ Some s → (e : ℤ) × (o ≡ Some e)
some_mapped f (Some e) s x = (e, refl)
some_mapped f None s x = absurd (nothing s x)

said-parts : (neg : Bool) (d : Digits) (s : Said) → said_by neg d ≡ Some s → (1 ≤ d.count) × ((e : ℤ) × (exponent d.rest ≡ Some e))
said-parts neg d s x =
    let f : ℤ → Said = λ e. record { negative = neg; value = d.value; power = e -ℤ pos d.places } in
    ⊎_elim
    (λ y. absurd (nothing s (sym (cond-true (eqb d.count 0) None (option_map f (exponent d.rest)) y) ∙ x)))
    (λ n. let z = eqb-false d.count 0 n in (omega arith, some_mapped f (exponent d.rest) s (sym (cond-false (eqb d.count 0) None (option_map f (exponent d.rest)) n) ∙ x)))
    (cases_Bool (eqb d.count 0))

said-form : (bs : List ℕ) (s : Said) → said bs ≡ Some s → (p : Parts) × WellFormed p × (spelled p ≡ bs)
said-form bs s x =
    let u = unblank bs in
    let t = unsigned u in
    let b = unblank-split bs in
    let g = sign-split u in
    let m = front_split t in
    let y = said-parts (minus u) (digits_of_text t) s x in
    let k = back-split (digits_of_text t).rest y.1.0 y.1.1 in
    let p : Parts = record { before = b.0; sign = g.0; whole = m.whole; point = m.point; fraction = m.fraction; letter = k.letter; power_sign = k.sign; power = k.power; after = k.after } in (
      p,
      record {
        sign = g.1;
        mantissa = record { whole = m.wholes; fraction = m.fractions; point = m.points; some = omega (arith, m.size, y.0) };
        exponent = ⊎_elim (λ w. inl (record { letter = w.0; sign = w.1; digits = w.2; some = w.3; few = w.4 })) (λ w. inr w) k.form;
      },
      sym (b.1 ∙ ap (λ z. replicate b.0 32 ++ z) (g.2 ∙ ap (λ z. g.0 ++ z) (m.is ∙ ap (λ z. m.whole ++ (m.point ++ (m.fraction ++ z))) k.is))),
    )

pub numbers_have_form : NumbersHaveForm
numbers_have_form = (form-said, said-form)
