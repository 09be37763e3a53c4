-- The laws of reading, from texts.
use Rattle.std.proofs.Common.{◌≡◌, ℕ, ◌+◌, ◌^◌, ◌≤◌, true, List, length, negsuc, ◌≤ℤ◌, Some, None, Ok, Err, Option, Result, sym, refl, ap, ◌∙◌, subst, inl, inr, ⊎_elim, arith}
use Rattle.std.proofs.lemmas.Bool.{cases_lt, cases_Bool, cond-true, cond-false, true≢false}
use Rattle.decimals.specs.Number.{Said, said, read_at, read_number, read_deviation, deviation_of, number_of}
use Rattle.decimals.specs.Value.{SameValue, ValueIsKept, SameExactly, OneForm, RefusedRightly, SameDeviations, DeviationsRefusedRightly}
use Rattle.decimals.specs.Write.{Canonical, CanonicalDeviation, NumbersComeBack, DeviationsComeBack}
use Rattle.decimals.specs.declared.number.Number.{Number}
use Rattle.decimals.specs.declared.number.Deviation.{Deviation}
use Rattle.refusals.specs.declared.Fault.{Fault}
use Rattle.refusals.specs.declared.Fault.TheVariants.{WrongNumber, NumberOutOfRange}
use Rattle.decimals.proofs.Faults.{no_fault}
use Rattle.decimals.proofs.Reading.{read_at-long, read_at-said}
use Rattle.decimals.proofs.Bounds.{Low, said-low}
use Rattle.decimals.proofs.Values.{Read, read_value, same_from_values, values_from_same, value_read, unique}
use Rattle.decimals.proofs.RoundTrip.{length_text, number_as, as_canonical, number_back, deviation-back}

-- a text that is read is short
short : (k : ℕ) (bs : List ℕ) (n : Number) → read_at (10 ^ (k + 1)) bs ≡ Ok n → length bs ≤ 21
short k bs n e = ⊎_elim (λ l. absurd (no_fault WrongNumber n (sym (read_at-long (10 ^ (k + 1)) bs l) ∙ e))) (λ h. h) (cases_lt 21 (length bs))

short_range : (bs : List ℕ) → read_number bs ≡ Err NumberOutOfRange → length bs ≤ 21
short_range bs e = ⊎_elim (λ l. let f = read_at-long (10 ^ 15) bs l in let z : ◌≡◌ {A = ℕ} 0 1 = cc in absurd (omega arith)) (λ h. h) (cases_lt 21 (length bs))

low : (bs : List ℕ) (s : Said) → length bs ≤ 21 → said bs ≡ Some s → negsuc 199 ≤ℤ s.power
low bs s h x = subst Low x (said-low bs h)

pub read_of : (k : ℕ) (bs : List ℕ) (s : Said) (n : Number) → k ≤ 14 → said bs ≡ Some s → read_at (10 ^ (k + 1)) bs ≡ Ok n → Read k s n
read_of k bs s n l x e =
    let h = short k bs n e in
    read_value k s n l (low bs s h x) (sym (read_at-said (10 ^ (k + 1)) bs h ∙ ap (number_of (10 ^ (k + 1))) x) ∙ e)

-- a text that is read says something
says : (k : ℕ) (bs : List ℕ) (n : Number) (o : Option Said) → said bs ≡ o → read_at (10 ^ (k + 1)) bs ≡ Ok n → (s : Said) × (said bs ≡ Some s)
says k bs n (Some s) x e = (s, x)
says k bs n None x e = absurd (no_fault WrongNumber n (sym (read_at-said (10 ^ (k + 1)) bs (short k bs n e) ∙ ap (number_of (10 ^ (k + 1))) x) ∙ e))

pub canonical_of : (k : ℕ) (bs : List ℕ) (n : Number) → k ≤ 14 → read_at (10 ^ (k + 1)) bs ≡ Ok n → Canonical k n
canonical_of k bs n l e = let w = says k bs n (said bs) refl e in (read_of k bs w.0 n l w.1 e).held

pub value_is_kept : ValueIsKept
value_is_kept bs s n x e =
    let r = read_of 14 bs s n (omega arith) x e in
    (low bs s (short 14 bs n e) x, r.value, ⊎_elim (λ z. inr z.0) (λ y. inl y.1) r.sign)

pub same_at : (k : ℕ) (bs cs : List ℕ) (s t : Said) (m n : Number) → k ≤ 14 → said bs ≡ Some s → said cs ≡ Some t → read_at (10 ^ (k + 1)) bs ≡ Ok m → read_at (10 ^ (k + 1)) cs ≡ Ok n
    → (m ≡ n → SameValue s t) × (SameValue s t → m ≡ n)
same_at k bs cs s t m n l x y a b =
    let r = read_of k bs s m l x a in
    let q = read_of k cs t n l y b in
    (values_from_same k s t m n r q, same_from_values k s t m n l r q)

pub same_exactly : SameExactly
same_exactly bs cs s t m n = same_at 14 bs cs s t m n (omega arith)

pub one_form : OneForm
one_form m n = unique 14 m n (omega arith)

pub refused_rightly : RefusedRightly
refused_rightly bs s x e n c v =
    let h = short_range bs e in
    let w = value_read 14 s n (omega arith) (low bs s h x) c v in
    let f : read_number bs ≡ Ok w.0 = read_at-said (10 ^ 15) bs h ∙ (ap (number_of (10 ^ 15)) x ∙ w.1) in
    no_fault NumberOutOfRange w.0 (sym e ∙ f)

pub numbers_come_back : NumbersComeBack
numbers_come_back = (λ bs n e. canonical_of 14 bs n (omega arith) e, number_back, λ n. omega (arith, length_text 14 n.mantissa n.exponent))

-- a deviation that is read is a number that is not below zero
deviation_as : (r : Result Number Fault) (d : Deviation) → deviation_of r ≡ Ok d → r ≡ Ok (number_as d)
deviation_as (Err e) d x = absurd (no_fault e d x)
deviation_as (Ok n) d x =
    ⊎_elim
    (λ t. absurd (no_fault NumberOutOfRange d (sym (cond-true _ _ _ t) ∙ x)))
    (λ f.
    let y : Ok (record { mantissa = n.mantissa; exponent = n.exponent }) ≡ Ok d = sym (cond-false n.negative (Err NumberOutOfRange) (Ok (record { mantissa = n.mantissa; exponent = n.exponent })) f) ∙ x in
    let z : record { mantissa = n.mantissa; exponent = n.exponent } ≡ d = cc in
    ap (λ b. Ok (record { negative = b; mantissa = n.mantissa; exponent = n.exponent })) f ∙ ap (λ (d : Deviation). Ok (number_as d)) z)
    (cases_Bool n.negative)

as_number : (d : Deviation) → Canonical 5 (number_as d) → CanonicalDeviation d
as_number d (inl z) = inl (ap (λ (n : Number). record { mantissa = n.mantissa; exponent = n.exponent }) z)
as_number d (inr w) = inr w

pub deviations_come_back : DeviationsComeBack
deviations_come_back = (λ bs d e. as_number d (canonical_of 5 bs (number_as d) (omega arith) (deviation_as (read_at (10 ^ 6) bs) d e)), deviation-back, λ d. length_text 5 d.mantissa d.exponent)

pub same_deviations : SameDeviations
same_deviations bs cs s t d e x y a b =
    let w = same_at 5 bs cs s t (number_as d) (number_as e) (omega arith) x y (deviation_as (read_at (10 ^ 6) bs) d a) (deviation_as (read_at (10 ^ 6) cs) e b) in
    (λ z. w.0 (ap number_as z), λ v. ap (λ (n : Number). record { mantissa = n.mantissa; exponent = n.exponent }) (w.1 v))

short_deviation : (bs : List ℕ) → read_deviation bs ≡ Err NumberOutOfRange → length bs ≤ 21
short_deviation bs e = ⊎_elim (λ l. let f = ap deviation_of (read_at-long (10 ^ 6) bs l) in let z : ◌≡◌ {A = ℕ} 0 1 = cc in absurd (omega arith)) (λ h. h) (cases_lt 21 (length bs))

-- a number that is no deviation is below zero
below_zero : (n : Number) → deviation_of (Ok n) ≡ Err NumberOutOfRange → n.negative ≡ true
below_zero n e =
    ⊎_elim (λ t. t)
    (λ f. absurd (no_fault NumberOutOfRange (record { mantissa = n.mantissa; exponent = n.exponent }) (sym e ∙ cond-false n.negative (Err NumberOutOfRange) (Ok (record { mantissa = n.mantissa; exponent = n.exponent })) f)))
    (cases_Bool n.negative)

pub deviations_refused_rightly : DeviationsRefusedRightly
deviations_refused_rightly bs s x e d c v =
    let h = short_deviation bs e in
    let w = value_read 5 s (number_as d) (omega arith) (low bs s h x) (as_canonical d c) v in
    let f : read_at (10 ^ 6) bs ≡ Ok w.0 = read_at-said (10 ^ 6) bs h ∙ (ap (number_of (10 ^ 6)) x ∙ w.1) in
    let t = below_zero w.0 (sym (ap deviation_of f) ∙ e) in
    ⊎_elim
    (λ z. absurd (true≢false (sym t ∙ ap (λ (n : Number). n.negative) z.1)))
    (λ y. sym y.1 ∙ t)
    (read_of 5 bs s w.0 (omega arith) x f).sign
