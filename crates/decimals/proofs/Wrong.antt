-- A field is refused for its form exactly where it has not the form.
use Rattle.std.proofs.Common.{◌≡◌, ℕ, ◌^◌, ◌≤◌, Bool, true, false, eqb, List, length, ℤ, Some, None, Ok, Err, Option, Result, sym, refl, ap, ◌∙◌, ⊎_elim, arith}
use Rattle.std.proofs.lemmas.Bool.{cond_both, cases_eq, cases_Bool, cond-true, cond-false, false≢true}
use Rattle.refusals.specs.declared.Fault.{Fault}
use Rattle.refusals.specs.declared.Fault.TheVariants.{WrongNumber, NumberOutOfRange}
use Rattle.refusals.specs.Numbers.{number_of as faultNumber}
use Rattle.decimals.specs.Number.{Said, said, fitted, scaled, number_of, read_at, deviation_of}
use Rattle.decimals.specs.Grammar.{meant, Formless, WrongExactly}
use Rattle.decimals.specs.declared.number.Number.{Number}
use Rattle.decimals.proofs.Reading.{read_at-said}
use Rattle.decimals.proofs.Scaling.{scaled_zero, scaled_fits, top_of}
use Rattle.decimals.proofs.Shapes.{numbers_have_form}

-- whether an answer is that the form is wrong
abbrev IsForm : {A : Type 0} → Result A Fault → Bool
IsForm (Err e) = eqb (faultNumber e) 13
IsForm (Ok a) = false

fitted-form : (neg : Bool) (a b : ℕ) (q : ℤ) → IsForm (fitted neg a b q) ≡ false
fitted-form neg a b q = cond_both {A = Result Number Fault} _ (Ok _) (Err NumberOutOfRange) (λ r. IsForm r ≡ false) (λ _. refl) (λ _. refl)

scaled-form : (unit : ℕ) (s : Said) → IsForm (scaled unit s) ≡ false
scaled-form unit s =
    ⊎_elim
    (λ z. ap IsForm (scaled_zero unit s z))
    (λ n. ap IsForm (scaled_fits unit s n) ∙ fitted-form s.negative _ _ (top_of s))
    (cases_eq s.value 0)

-- the same of a text, at any precision
pub record Refused (unit : ℕ) (bs : List ℕ) : Type 0 where
  pub formless : IsForm (read_at unit bs) ≡ true → Formless bs
  pub wrong : Formless bs → read_at unit bs ≡ Err WrongNumber

by_said : (unit : ℕ) (bs : List ℕ) (o : Option Said) → length bs ≤ 21 → said bs ≡ o → Refused unit bs
by_said unit bs (Some s) h x =
    let r : read_at unit bs ≡ scaled unit s = read_at-said unit bs h ∙ ap (number_of unit) x in
    let f : IsForm (read_at unit bs) ≡ false = ap IsForm r ∙ scaled-form unit s in
    let q = numbers_have_form.1 bs s x in
    record { formless = λ t. absurd (false≢true (sym f ∙ t)); wrong = λ n. absurd (n q.0 q.1 q.2) }
by_said unit bs None h x =
    record {
      formless = λ t p w e. let y : Some (meant p) ≡ None = sym (numbers_have_form.0 p w) ∙ (ap said e ∙ x) in let z : ◌≡◌ {A = ℕ} 0 1 = cc in omega arith;
      wrong = λ n. read_at-said unit bs h ∙ ap (number_of unit) x;
    }

-- a deviation is refused for its form where the number is
deviation-form : (r : Result Number Fault) → deviation_of r ≡ Err WrongNumber → IsForm r ≡ true
deviation-form (Err e) x = let y : e ≡ WrongNumber = cc in ap (λ k. eqb (faultNumber k) 13) y
deviation-form (Ok n) x =
    ⊎_elim
    (λ t. let y : IsForm (deviation_of (Ok n)) ≡ false = ap IsForm (cond-true n.negative (Err NumberOutOfRange) (Ok (record { mantissa = n.mantissa; exponent = n.exponent })) t) in absurd (false≢true (sym y ∙ ap IsForm x)))
    (λ f. let y : IsForm (deviation_of (Ok n)) ≡ false = ap IsForm (cond-false n.negative (Err NumberOutOfRange) (Ok (record { mantissa = n.mantissa; exponent = n.exponent })) f) in absurd (false≢true (sym y ∙ ap IsForm x)))
    (cases_Bool n.negative)

pub wrong_exactly : WrongExactly
wrong_exactly bs h =
    let n = by_said (10 ^ 15) bs (said bs) h refl in
    let d = by_said (10 ^ 6) bs (said bs) h refl in (
      (λ x. n.formless (ap IsForm x), λ f. n.wrong f),
      (λ x. d.formless (deviation-form (read_at (10 ^ 6) bs) x), λ f. ap deviation_of (d.wrong f)),
    )
