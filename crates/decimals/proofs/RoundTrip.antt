-- What is written of a number is read as that number.
use Rattle.std.proofs.Common.{◌≡◌, ℕ, suc, ◌+◌, ◌*◌, ◌/◌, ◌%◌, ◌^◌, ◌<◌, ◌≤◌, Bool, true, false, cond, eqb, List, [], ◌∷◌, ◌++◌, length, ℤ, pos, negsuc, ◌+ℤ◌, ◌-ℤ◌, nat_abs, ◌≤ℤ◌, Some, Ok, sym, refl, ap, ◌∙◌, subst, inl, inr, mod-eq_of_lt, mul_comm, div-add-mod', mul-div_cancel, arith, length-append}
use native.Mathlib.Nat.{mul-mod_left}
use Rattle.std.proofs.lemmas.Bool.{cond-true, cond-false, ne_eqb, or_from}
use Rattle.std.proofs.lemmas.Nat.{div_below}
use Rattle.std.proofs.lemmas.Int.{ints}
use Rattle.std.proofs.lemmas.List.{append-nil}
use Rattle.decimals.specs.Scan.{unblank, minus, unsigned, is_digit, digits_from, count, past}
use Rattle.decimals.specs.Number.{Said, after_whole, digits_of_text, exponent, exponent_digits, said, said_by, scaled, fitted, number_of, signed, read_number, read_deviation, deviation_of}
use Rattle.decimals.specs.Write.{fixed, below, digits_text, number_text, deviation_text, Canonical, CanonicalDeviation}
use Rattle.decimals.specs.declared.number.Number.{Number}
use Rattle.decimals.specs.declared.number.Deviation.{Deviation}
use Rattle.decimals.proofs.Fixed.{digit_of, length-fixed, fixed-count, fixed-past, fixed-value}
use Rattle.decimals.proofs.Forms.{exponent_yes}
use Rattle.decimals.proofs.Powers.{ten_pos, ten_more}
use Rattle.decimals.proofs.Sizes.{size_is}
use Rattle.decimals.proofs.Reading.{read_at-said, said_by-some}
use Rattle.decimals.proofs.Scaling.{scaled_zero, scaled_fits, fitted_yes}

-- two digits
pub two_count : (e : ℕ) → count (fixed 2 e) ≡ 2
two_count e = ap count (sym (append-nil (fixed 2 e))) ∙ fixed-count 2 e []

pub two_past : (e : ℕ) → past (fixed 2 e) ≡ []
two_past e = ap past (sym (append-nil (fixed 2 e))) ∙ fixed-past 2 e []

pub two_value : (e : ℕ) → e < 100 → digits_from 0 (fixed 2 e) ≡ e
two_value e h = ap (digits_from 0) (sym (append-nil (fixed 2 e))) ∙ (fixed-value 0 2 e [] ∙ omega arith)

two_digits_read : (neg : Bool) (e : ℕ) → e < 100 → exponent_digits neg (fixed 2 e) ≡ Some (signed neg e)
two_digits_read neg e h =
    exponent_yes neg (fixed 2 e) (omega (arith, two_count e)) (omega (arith, two_count e)) (rw two_past refl)
    ∙ ap (λ n. Some (signed neg n)) (two_value e h)

pub exponent_read : (q : ℤ) → negsuc 98 ≤ℤ q → q ≤ℤ pos 99 → exponent (69 ∷ (cond (below q) 45 43 ∷ fixed 2 (nat_abs q))) ≡ Some q
exponent_read (pos n) a b = two_digits_read false n (omega (arith, ints))
exponent_read (negsuc n) a b = two_digits_read true (suc n) (omega (arith, ints))

-- a number below ten times a power: its first digit and the rest
first_digit : (k m : ℕ) → m < 10 ^ (k + 1) → m / 10 ^ k % 10 * 10 ^ k + m % 10 ^ k ≡ m
first_digit k m h =
    let l : m < 10 * 10 ^ k = subst (λ n. m < n) (ten_more k ∙ mul_comm (10 ^ k) 10) h in
    let d : m / 10 ^ k % 10 ≡ m / 10 ^ k = mod-eq_of_lt (div_below m (10 ^ k) 10 (ten_pos k) l) in
    ap (λ n. n * 10 ^ k + m % 10 ^ k) d ∙ div-add-mod' m (10 ^ k)

pub digits_read : (k m : ℕ) (r : List ℕ) → m < 10 ^ (k + 1) → digits_of_text ((48 + m / 10 ^ k % 10) ∷ (46 ∷ (fixed k m ++ (69 ∷ r)))) ≡ record { value = m; count = 1 + k; places = k; rest = 69 ∷ r }
digits_read k m r h =
    let d : ℕ = m / 10 ^ k % 10 in
    let u : List ℕ = fixed k m ++ (69 ∷ r) in
    let y : is_digit (48 + d) ≡ true = digit_of (m / 10 ^ k) in
    let v : digits_from 0 ((48 + d) ∷ (46 ∷ u)) ≡ d = cond-true _ _ _ y ∙ omega arith in
    let n : count ((48 + d) ∷ (46 ∷ u)) ≡ 1 = cond-true _ _ _ y in
    let p : past ((48 + d) ∷ (46 ∷ u)) ≡ 46 ∷ u = cond-true _ _ _ y in
    let v' : digits_from d u ≡ m = fixed-value d k m (69 ∷ r) ∙ first_digit k m h in
    let n' : count u ≡ k = fixed-count k m (69 ∷ r) ∙ omega arith in
    let p' : past u ≡ 69 ∷ r = fixed-past k m (69 ∷ r) in
    let a : after_whole (digits_from 0 ((48 + d) ∷ (46 ∷ u))) (count ((48 + d) ∷ (46 ∷ u))) (past ((48 + d) ∷ (46 ∷ u))) ≡ after_whole d 1 (46 ∷ u) =
    ap (λ x. after_whole x (count ((48 + d) ∷ (46 ∷ u))) (past ((48 + d) ∷ (46 ∷ u)))) v
    ∙ (ap (λ x. after_whole d x (past ((48 + d) ∷ (46 ∷ u)))) n ∙ ap (λ x. after_whole d 1 x) p) in
    a ∙ (ap (λ x. record { value = x; count = 1 + count u; places = count u; rest = past u }) v'
    ∙ (ap (λ x. record { value = m; count = 1 + x; places = x; rest = past u }) n'
    ∙ ap (λ x. record { value = m; count = 1 + k; places = k; rest = x }) p'))

said_read : (neg : Bool) (k m : ℕ) (q : ℤ) → m < 10 ^ (k + 1) → negsuc 98 ≤ℤ q → q ≤ℤ pos 99 → said_by neg (digits_of_text (digits_text k m q)) ≡ Some (record { negative = neg; value = m; power = q -ℤ pos k })
said_read neg k m q h a b =
    ap (said_by neg) (digits_read k m (cond (below q) 45 43 ∷ fixed 2 (nat_abs q)) h)
    ∙ said_by-some neg (record { value = m; count = 1 + k; places = k; rest = 69 ∷ (cond (below q) 45 43 ∷ fixed 2 (nat_abs q)) }) q (λ z. omega arith) (exponent_read q a b)

scaled_read : (neg : Bool) (k m : ℕ) (q : ℤ) → 10 ^ k ≤ m → m < 10 ^ (k + 1) → negsuc 98 ≤ℤ q → q ≤ℤ pos 99 → scaled (10 ^ (k + 1)) (record { negative = neg; value = m; power = q -ℤ pos k }) ≡ Ok (record { negative = neg; mantissa = m; exponent = q })
scaled_read neg k m q l h a b =
    let s : Said = record { negative = neg; value = m; power = q -ℤ pos k } in
    let z : m ≡ 0 → ⊥ = λ e. omega (arith, ten_pos k) in
    let d = size_is m k l h in
    let t : ((q -ℤ pos k) +ℤ pos (k + 1)) -ℤ pos 1 ≡ q = omega (arith, ints) in
    let y = fitted_yes neg (m * 10 ^ (k + 1)) (10 ^ (k + 1)) q (mul-mod_left m (10 ^ (k + 1))) (grind (arith, ints)) (grind (arith, ints)) in
    scaled_fits (10 ^ (k + 1)) s z
    ∙ (ap (λ n. fitted neg (m * 10 ^ (k + 1)) (10 ^ n) (((q -ℤ pos k) +ℤ pos n) -ℤ pos 1)) d
    ∙ (ap (λ x. fitted neg (m * 10 ^ (k + 1)) (10 ^ (k + 1)) x) t
    ∙ (y ∙ ap (λ n. Ok (record { negative = neg; mantissa = n; exponent = q })) (mul-div_cancel m (ten_pos (k + 1))))))

-- the front of what is written, behind a blank, a minus or nothing
front : (k m : ℕ) (t : List ℕ) → (unblank ((48 + m / 10 ^ k % 10) ∷ t) ≡ (48 + m / 10 ^ k % 10) ∷ t) × (minus ((48 + m / 10 ^ k % 10) ∷ t) ≡ false) × (unsigned ((48 + m / 10 ^ k % 10) ∷ t) ≡ (48 + m / 10 ^ k % 10) ∷ t)
front k m t =
    let x : ℕ = 48 + m / 10 ^ k % 10 in
    let a : eqb x 32 ≡ false = ne_eqb x 32 (λ z. omega arith) in
    let b : eqb x 45 ≡ false = ne_eqb x 45 (λ z. omega arith) in
    let d : eqb x 43 ≡ false = ne_eqb x 43 (λ z. omega arith) in
    (cond-false _ _ _ a, b, cond-false _ _ _ (or_from (eqb x 45) (eqb x 43) b d))

said_plain : (k m : ℕ) (q : ℤ) → said (digits_text k m q) ≡ said_by false (digits_of_text (digits_text k m q))
said_plain k m q =
    let f = front k m (46 ∷ (fixed k m ++ (69 ∷ (cond (below q) 45 43 ∷ fixed 2 (nat_abs q))))) in
    ap (λ t. said_by (minus t) (digits_of_text (unsigned t))) f.0
    ∙ (ap (λ b. said_by b (digits_of_text (unsigned (digits_text k m q)))) f.1 ∙ ap (λ t. said_by false (digits_of_text t)) f.2)

pub said-signed : (neg : Bool) (k m : ℕ) (q : ℤ) → said (cond neg 45 32 ∷ digits_text k m q) ≡ said_by neg (digits_of_text (digits_text k m q))
said-signed true k m q = refl
said-signed false k m q = said_plain k m q

pub length_text : (k m : ℕ) (q : ℤ) → length (digits_text k m q) ≡ k + 6
length_text k m q = simp (length-append, length-fixed) (omega arith)

-- what is said of a canonical number, at any number of digits
pub canonical_read : (k : ℕ) (n : Number) → Canonical k n → number_of (10 ^ (k + 1)) (said_by n.negative (digits_of_text (digits_text k n.mantissa n.exponent))) ≡ Ok n
canonical_read k n (inl z) =
    subst (λ n. number_of (10 ^ (k + 1)) (said_by n.negative (digits_of_text (digits_text k n.mantissa n.exponent))) ≡ Ok n) (sym z)
    (ap (number_of (10 ^ (k + 1))) (said_read false k 0 (pos 0) (ten_pos (k + 1)) (grind (arith, ints)) (grind (arith, ints))) ∙ scaled_zero (10 ^ (k + 1)) (record { negative = false; value = 0; power = pos 0 -ℤ pos k }) refl)
canonical_read k n (inr w) =
    ap (number_of (10 ^ (k + 1))) (said_read n.negative k n.mantissa n.exponent w.1 w.2 w.3)
    ∙ scaled_read n.negative k n.mantissa n.exponent w.0 w.1 w.2 w.3

pub number_back : (n : Number) → Canonical 14 n → read_number (number_text n) ≡ Ok n
number_back n w =
    read_at-said (10 ^ 15) (number_text n) (omega (arith, length_text 14 n.mantissa n.exponent))
    ∙ (ap (number_of (10 ^ 15)) (said-signed n.negative 14 n.mantissa n.exponent) ∙ canonical_read 14 n w)

-- a deviation, as a number that is not below zero
abbrev pub number_as : Deviation → Number
number_as d = record { negative = false; mantissa = d.mantissa; exponent = d.exponent }

pub as_canonical : (d : Deviation) → CanonicalDeviation d → Canonical 5 (number_as d)
as_canonical d (inl z) = inl (ap number_as z)
as_canonical d (inr w) = inr w

pub deviation-back : (d : Deviation) → CanonicalDeviation d → read_deviation (deviation_text d) ≡ Ok d
deviation-back d w =
    ap deviation_of
    (read_at-said (10 ^ 6) (deviation_text d) (omega (arith, length_text 5 d.mantissa d.exponent))
    ∙ (ap (number_of (10 ^ 6)) (said_plain 5 d.mantissa d.exponent) ∙ canonical_read 5 (number_as d) (as_canonical d w)))
