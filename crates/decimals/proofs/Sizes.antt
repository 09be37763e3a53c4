-- How many digits a number has.
use Rattle.std.proofs.Common.{◌≡◌, ℕ, ◌+◌, ◌^◌, ◌<◌, ◌≤◌, subst, ⊎_elim, arith}
use Rattle.std.specs.Int.Digits.{digits_of}
use Rattle.std.proofs.lemmas.Int.Digits.{length-digits_of-le, number_lt, number_digits_of, all_below_base_digits_of}
use Rattle.std.proofs.lemmas.Bool.{cases_lt}
use Rattle.decimals.specs.Number.{size}
use Rattle.decimals.proofs.Powers.{ten_mono}

-- a number is below the power of ten of its size
pub size_above : (v : ℕ) → v < 10 ^ size v
size_above v = subst (λ n. n < 10 ^ size v) (number_digits_of 10 v (omega arith)) (number_lt 10 (digits_of 10 v) (all_below_base_digits_of 10 v (omega arith)))

pub size_le : (v k : ℕ) → v < 10 ^ k → size v ≤ k
size_le v k h = length-digits_of-le 10 k v (omega arith) h

-- one that reaches a power has more digits
pub size_ge : (v k : ℕ) → 10 ^ k ≤ v → k + 1 ≤ size v
size_ge v k h = ⊎_elim (λ l. omega arith) (λ g. absurd (omega (arith, size_above v, ten_mono (size v) k (omega arith)))) (cases_lt k (size v))

pub size_is : (v k : ℕ) → 10 ^ k ≤ v → v < 10 ^ (k + 1) → size v ≡ k + 1
size_is v k a b = omega (arith, size_ge v k a, size_le v (k + 1) b)
