-- A text of at most 21 bytes says no power below -200.
use Rattle.std.proofs.Common.{ℕ, suc, ◌+◌, ◌<◌, ◌≤◌, Bool, true, false, cond, ◌&&◌, ◌||◌, eqb, leb, List, [], ◌∷◌, length, ℤ, pos, negsuc, ◌-ℤ◌, ◌≤ℤ◌, Some, None, Option, arith}
use Rattle.std.specs.Option.{option_map}
use Rattle.std.proofs.lemmas.Bool.{cond_both, and_parts, leb-true}
use Rattle.std.proofs.lemmas.Int.{ints}
use Rattle.decimals.specs.Scan.{unblank, minus, unsigned, is_digit, digits_from, count, past}
use Rattle.decimals.specs.Number.{Digits, Said, after_whole, digits_of_text, exponent, exponent_digits, blank, signed, said}
use Rattle.decimals.proofs.Forms.{two_digits}

pub count_le : (t : List ℕ) → count t ≤ length t
count_le [] = omega arith
count_le (c ∷ cs) = cond_both (is_digit c) (1 + count cs) 0 (λ n. n ≤ suc (length cs)) (λ _. omega (arith, count_le cs)) (λ _. omega arith)

past_le : (t : List ℕ) → length (past t) ≤ length t
past_le [] = omega arith
past_le (c ∷ cs) = cond_both (is_digit c) (past cs) (c ∷ cs) (λ t. length t ≤ suc (length cs)) (λ _. omega (arith, past_le cs)) (λ _. omega arith)

pub unblank_le : (t : List ℕ) → length (unblank t) ≤ length t
unblank_le [] = omega arith
unblank_le (c ∷ cs) = cond_both (eqb c 32) (unblank cs) (c ∷ cs) (λ t. length t ≤ suc (length cs)) (λ _. omega (arith, unblank_le cs)) (λ _. omega arith)

unsigned_le : (t : List ℕ) → length (unsigned t) ≤ length t
unsigned_le [] = omega arith
unsigned_le (c ∷ cs) = cond_both (eqb c 45 || eqb c 43) cs (c ∷ cs) (λ t. length t ≤ suc (length cs)) (λ _. omega arith) (λ _. omega arith)

places_le : (v n : ℕ) (t : List ℕ) → (after_whole v n t).places ≤ length t
places_le v n [] = omega arith
places_le v n (c ∷ cs) = cond_both {A = Digits} (eqb c 46) (record { value = digits_from v cs; count = n + count cs; places = count cs; rest = past cs }) (record { value = v; count = n; places = 0; rest = c ∷ cs }) (λ d. d.places ≤ suc (length cs)) (λ _. omega (arith, count_le cs)) (λ _. omega arith)

signed_range : (neg : Bool) (n : ℕ) → n < 100 → (negsuc 98 ≤ℤ signed neg n) × (signed neg n ≤ℤ pos 99)
signed_range true n h = (omega (arith, ints), omega (arith, ints))
signed_range false n h = (omega (arith, ints), omega (arith, ints))

abbrev pub InRange : Option ℤ → Type 0
InRange None = Unit {0}
InRange (Some e) = (negsuc 98 ≤ℤ e) × (e ≤ℤ pos 99)

digits_range : (neg : Bool) (t : List ℕ) → InRange (exponent_digits neg t)
digits_range neg t = cond_both (leb 1 (count t) && leb (count t) 2 && blank (past t)) (Some (signed neg (digits_from 0 t))) None InRange
    (λ e. let p = and_parts (leb 1 (count t) && leb (count t) 2) (blank (past t)) e in let q = and_parts (leb 1 (count t)) (leb (count t) 2) p.0 in signed_range neg (digits_from 0 t) (two_digits t (leb-true (count t) 2 q.1)))
    (λ _. tt)

zero_range : InRange (Some (pos 0))
zero_range = (omega (arith, ints), omega (arith, ints))

pub exponent_range : (t : List ℕ) → InRange (exponent t)
exponent_range [] = zero_range
exponent_range (c ∷ cs) = cond_both (eqb c 69 || eqb c 101) (exponent_digits (minus cs) (unsigned cs)) (cond (blank (c ∷ cs)) (Some (pos 0)) None) InRange
    (λ _. digits_range (minus cs) (unsigned cs))
    (λ _. cond_both (blank (c ∷ cs)) (Some (pos 0)) None InRange (λ _. zero_range) (λ _. tt))

abbrev pub Low : Option Said → Type 0
Low None = Unit {0}
Low (Some s) = negsuc 199 ≤ℤ s.power

low_mapped : (neg : Bool) (d : Digits) (e : Option ℤ) → InRange e → d.places ≤ 21 → Low (option_map (λ e. record { negative = neg; value = d.value; power = e -ℤ pos d.places }) e)
low_mapped neg d None r h = tt
low_mapped neg d (Some e) r h = omega (arith, ints, r.0)

pub said-low : (bs : List ℕ) → length bs ≤ 21 → Low (said bs)
said-low bs h =
    let t = unsigned (unblank bs) in
    let d = digits_of_text t in
    let p : d.places ≤ 21 = omega (arith, places_le (digits_from 0 t) (count t) (past t), past_le t, unsigned_le (unblank bs), unblank_le bs) in
    cond_both (eqb d.count 0) None (option_map (λ e. record { negative = minus (unblank bs); value = d.value; power = e -ℤ pos d.places }) (exponent d.rest)) Low
    (λ _. tt)
    (λ _. low_mapped (minus (unblank bs)) d (exponent d.rest) (exponent_range d.rest) p)
