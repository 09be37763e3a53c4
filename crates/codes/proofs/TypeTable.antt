-- The table of parameter types.
use Rattle.std.proofs.lemmas.Grind.{common_steps}
use Rattle.std.proofs.Common.{◌≡◌, ℕ, zero, suc, ◌<◌, Bool, true, false, ◌&&◌, List, [], ◌∷◌, length, get_or, Some, None, Ok, Err, Option, Result, sym, refl, ap, ◌∙◌, ⊎_elim, arith}
use Rattle.std.proofs.lemmas.Bool.{cond-true, cond-false, cases_Bool, and_parts, true≢false, false≢true}
use Rattle.refusals.specs.declared.Fault.{Fault}
use Rattle.codes.specs.Order.{is_equal, same_text}
use Rattle.codes.specs.Text.{read_text}
use Rattle.std.proofs.lemmas.Cmp.{nat_list_cmp_total, tied_itself}
use Rattle.codes.proofs.Spellings.{same_is}
use Rattle.decimals.proofs.Faults.{nothing}
use Rattle.codes.specs.ParameterTypes.{types, no_type, first_named, in_unit, TypesComeBack, TypesAreNamed, TypesAreTexts}
use Rattle.codes.specs.declared.types.ParameterType.{ParameterType}

-- ---- the rule of the table, computed once over all of it

abbrev is_nothing : Option ParameterType → Bool
is_nothing None = true
is_nothing (Some t) = false

-- no later type has the name of an earlier one
abbrev apart : List ParameterType → Bool
apart [] = true
apart (t ∷ ts) = is_nothing (first_named t.name ts) && apart ts

types-apart : apart types ≡ true
unfolding types
types-apart = refl

same_self : (xs : List ℕ) → same_text xs xs ≡ true
same_self xs = ap is_equal (tied_itself nat_list_cmp_total xs)

-- a name that is not found is not that of any place
not_named : (name : List ℕ) (ts : List ParameterType) (i : ℕ) → is_nothing (first_named name ts) ≡ true → i < length ts → same_text name (get_or ts i no_type).name ≡ false
not_named name [] i e h = absurd (omega arith)
not_named name (t ∷ ts) zero e h = grind (arith, common_steps)
not_named name (t ∷ ts) (suc i) e h = grind (arith, common_steps, not_named name ts i)

not_same : (xs ys : List ℕ) → same_text xs ys ≡ false → same_text ys xs ≡ false
not_same xs ys f = ⊎_elim (λ y. absurd (true≢false (sym (same_self xs) ∙ (ap (same_text xs) (sym (same_is ys xs y)) ∙ f)))) (λ g. g) (cases_Bool (same_text ys xs))

found : (ts : List ParameterType) (i : ℕ) → apart ts ≡ true → i < length ts → first_named (get_or ts i no_type).name ts ≡ Some (get_or ts i no_type)
found [] i e h = absurd (omega arith)
found (t ∷ ts) zero e h = cond-true _ _ _ (same_self t.name)
found (t ∷ ts) (suc i) e h =
    let p = and_parts (is_nothing (first_named t.name ts)) (apart ts) e in
    let n = not_named t.name ts i p.0 (omega arith) in
    cond-false _ _ _ (not_same t.name (get_or ts i no_type).name n) ∙ found ts i p.1 (omega arith)

-- a type that is found has the name, and stands in the table
named : (name : List ℕ) (ts : List ParameterType) (t : ParameterType) → first_named name ts ≡ Some t → (t.name ≡ name) × ((i : ℕ) × (i < length ts) × (get_or ts i no_type ≡ t))
named name [] t e = absurd (nothing t e)
named name (u ∷ us) t e =
    ⊎_elim
    (λ y.
    let z : Some u ≡ Some t = sym (cond-true (same_text name u.name) (Some u) (first_named name us) y) ∙ e in
    let w : u ≡ t = cc in
    (sym (ap (λ (v : ParameterType). v.name) w) ∙ sym (same_is name u.name y), (0, omega arith, w)))
    (λ f.
    let r = named name us t (sym (cond-false (same_text name u.name) (Some u) (first_named name us) f) ∙ e) in
    (r.0, (suc r.1.0, omega (arith, r.1.1), r.1.2)))
    (cases_Bool (same_text name u.name))

-- whether a text is read as itself
abbrev itself : Result (List ℕ) Fault → List ℕ → Bool
itself (Ok u) t = same_text u t
itself (Err e) t = false

itself_is : (r : Result (List ℕ) Fault) (t : List ℕ) → itself r t ≡ true → r ≡ Ok t
itself_is (Ok u) t e = ap Ok (same_is u t e)
itself_is (Err f) t e = absurd (false≢true e)

abbrev texts : List ParameterType → Bool
texts [] = true
texts (t ∷ ts) = (itself (read_text 6 t.name) t.name && itself (read_text 4 t.unit) t.unit) && texts ts

types_texts : texts types ≡ true
unfolding types
types_texts = refl

text_at : (ts : List ParameterType) (i : ℕ) → texts ts ≡ true → i < length ts → (read_text 6 (get_or ts i no_type).name ≡ Ok (get_or ts i no_type).name) × (read_text 4 (get_or ts i no_type).unit ≡ Ok (get_or ts i no_type).unit)
text_at [] i e h = absurd (omega arith)
text_at (t ∷ ts) zero e h = (grind (arith, common_steps, itself_is), grind (arith, common_steps, itself_is))
text_at (t ∷ ts) (suc i) e h = text_at ts i (grind (arith, common_steps)) (omega arith)

pub types_come_back : TypesComeBack
types_come_back i h =
    let e = found types i types-apart h in
    (e, ap (in_unit (get_or types i no_type).unit) e ∙ cond-true _ _ _ (same_self (get_or types i no_type).unit))

pub types_are_named : TypesAreNamed
types_are_named name t e = named name types t e

pub types_are_texts : TypesAreTexts
types_are_texts i h = text_at types i types_texts h
