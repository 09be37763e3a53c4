-- The cases of `scaled`.
use Rattle.std.proofs.Common.{◌≡◌, ℕ, ◌*◌, ◌/◌, ◌%◌, ◌^◌, Bool, false, eqb, ℤ, pos, negsuc, ◌+ℤ◌, ◌-ℤ◌, Ok, arith}
use lib.Signed.{lt_z}
use Rattle.std.proofs.lemmas.Bool.{eq-eqb, ne_eqb, cond-true, cond-false, and_from}
use Rattle.std.proofs.lemmas.Int.{ints}
use Rattle.decimals.specs.Number.{Said, size, scaled, fitted, in_range, zero_number}

-- the exponent of a number's first digit
abbrev pub top_of : Said → ℤ
top_of s = (s.power +ℤ pos (size s.value)) -ℤ pos 1

pub scaled_zero : (unit : ℕ) (s : Said) → s.value ≡ 0 → scaled unit s ≡ Ok zero_number
unfolding scaled
scaled_zero unit s e = cond-true _ _ _ (eq-eqb s.value 0 e)

pub scaled_fits : (unit : ℕ) (s : Said) → (s.value ≡ 0 → ⊥) → scaled unit s ≡ fitted s.negative (s.value * unit) (10 ^ size s.value) (top_of s)
unfolding scaled
scaled_fits unit s e = cond-false _ _ _ (ne_eqb s.value 0 e)

pub fitted_yes : (neg : Bool) (a b : ℕ) (q : ℤ) → a % b ≡ 0 → lt_z q (negsuc 98) ≡ false → lt_z (pos 99) q ≡ false → fitted neg a b q ≡ Ok (record { negative = neg; mantissa = a / b; exponent = q })
fitted_yes neg a b q m l h = cond-true _ _ _ (and_from (eqb (a % b) 0) (in_range q) (eq-eqb (a % b) 0 m) (grind (arith, ints)))
