-- The form of a number's text, byte by byte.
use Rattle.std.proofs.Common.{false, ◌≡◌, ℕ, ◌+◌, ◌-◌, ◌*◌, ◌^◌, ◌<◌, ◌≤◌, Bool, true, List, [], ◌∷◌, length, get_or, take, drop, Some, refl, ap, ◌∙◌, ⊎_elim, le_trans, arith}
use Rattle.std.proofs.lemmas.List.{take_rest}
use Rattle.std.proofs.lemmas.Bool.Decides.{nat_tests}
use Rattle.std.proofs.lemmas.Bool.{cond-true, cond-false, and_from, le-leb, cases_Bool}
use Rattle.decimals.specs.Scan.{is_digit, digits_from, count, past}
use Rattle.decimals.specs.Number.{exponent_digits, blank, signed}
use Rattle.decimals.proofs.Fronts.{rest_of, digit_yes}
use Rattle.decimals.proofs.Powers.{ten_mono, digit_on}

-- what is left after the first byte, as `&u[1..]` has it
abbrev pub tail : List ℕ → List ℕ
tail u = take (length u - 1) (drop 1 u)

-- digits say less than a power of ten
pub digits_from_lt : (v : ℕ) (t : List ℕ) → digits_from v t + 1 ≤ (v + 1) * 10 ^ count t
digits_from_lt v [] = omega arith
digits_from_lt v (c ∷ cs) =
    ⊎_elim
    (λ t.
    let a : digits_from v (c ∷ cs) ≡ digits_from (v * 10 + (c - 48)) cs = cond-true _ _ _ t in
    let b : count (c ∷ cs) ≡ count cs + 1 = cond-true _ _ _ t ∙ omega arith in
    let d : c - 48 ≤ 9 = grind (arith, nat_tests) in
    rw (a, b) (le_trans (digits_from_lt (v * 10 + (c - 48)) cs) (digit_on v (c - 48) (count cs) d)))
    (λ f.
    let a : digits_from v (c ∷ cs) ≡ v = cond-false _ _ _ f in
    let b : count (c ∷ cs) ≡ 0 = cond-false _ _ _ f in
    rw (a, b) (omega arith))
    (cases_Bool (is_digit c))

pub exponent_yes : (neg : Bool) (t : List ℕ) → 1 ≤ count t → count t ≤ 2 → blank (past t) ≡ true → exponent_digits neg t ≡ Some (signed neg (digits_from 0 t))
exponent_yes neg t a b e = cond-true _ _ _ (and_from _ _ (and_from _ _ (le-leb 1 (count t) a) (le-leb (count t) 2 b)) e)

-- one or two digits say less than a hundred
pub two_digits : (t : List ℕ) → count t ≤ 2 → digits_from 0 t < 100
two_digits t h = omega (arith, digits_from_lt 0 t, ten_mono (count t) 2 h)

-- blanks begin with no digit
no_digit_front : (v : ℕ) (t : List ℕ) → blank t ≡ true → (count t ≡ 0) × (past t ≡ t) × (digits_from v t ≡ v)
no_digit_front v [] e = (refl, refl, refl)
no_digit_front v (c ∷ cs) e = let d : is_digit c ≡ false = grind (arith, nat_tests) in rw d (refl, refl, refl)

-- a digit before them is the only one
one_front : (v c : ℕ) (cs : List ℕ) → is_digit c ≡ true → blank cs ≡ true
    → (count (c ∷ cs) ≡ 1) × (past (c ∷ cs) ≡ cs) × (digits_from v (c ∷ cs) ≡ v * 10 + (c - 48))
one_front v c cs d e =
    let n = no_digit_front (v * 10 + (c - 48)) cs e in
    (cond-true _ _ _ d ∙ omega (arith, n.0), cond-true _ _ _ d ∙ n.1, cond-true _ _ _ d ∙ n.2)

pub one_digit : (neg : Bool) (t : List ℕ) → 1 ≤ length t → 48 ≤ get_or t 0 0 → get_or t 0 0 ≤ 57 → blank (tail t) ≡ true
    → exponent_digits neg t ≡ Some (signed neg (get_or t 0 0 - 48))
one_digit neg [] h a b e = absurd (omega arith)
one_digit neg (c ∷ cs) h a b e =
    let q : blank cs ≡ true = rw (rest_of c cs) at e in
    let n = one_front 0 c cs (digit_yes c a b) q in
    exponent_yes neg (c ∷ cs) (omega (arith, n.0)) (omega (arith, n.0)) (ap blank n.1 ∙ q) ∙ ap (λ v. Some (signed neg v)) (n.2 ∙ omega arith)

pub two_digit : (neg : Bool) (t : List ℕ) → 2 ≤ length t → 48 ≤ get_or t 0 0 → get_or t 0 0 ≤ 57 → 48 ≤ get_or t 1 0 → get_or t 1 0 ≤ 57
    → blank (take (length t - 2) (drop 2 t)) ≡ true → exponent_digits neg t ≡ Some (signed neg (10 * (get_or t 0 0 - 48) + (get_or t 1 0 - 48)))
two_digit neg [] h a b a' b' e = absurd (omega arith)
two_digit neg (c ∷ []) h a b a' b' e = absurd (omega arith)
two_digit neg (c ∷ (d ∷ ds)) h a b a' b' e =
    let q : blank ds ≡ true = rw (take_rest (c ∷ (d ∷ ds)) 2) at e in
    let y = digit_yes c a b in
    let n = one_front (c - 48) d ds (digit_yes d a' b') q in
    let k : count (c ∷ (d ∷ ds)) ≡ 2 = cond-true _ _ _ y ∙ omega (arith, n.0) in
    let p : past (c ∷ (d ∷ ds)) ≡ ds = cond-true _ _ _ y ∙ n.1 in
    let z : 0 * 10 + (c - 48) ≡ c - 48 = omega arith in
    let v : digits_from 0 (c ∷ (d ∷ ds)) ≡ (c - 48) * 10 + (d - 48) = cond-true _ _ _ y ∙ (ap (λ i. digits_from i (d ∷ ds)) z ∙ n.2) in
    exponent_yes neg (c ∷ (d ∷ ds)) (omega (arith, k)) (omega (arith, k)) (ap blank p ∙ q) ∙ ap (λ x. Some (signed neg x)) (v ∙ omega arith)
