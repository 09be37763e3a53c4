-- Products with powers of ten.
use Rattle.std.proofs.Common.{◌≡◌, ℕ, ◌+◌, ◌-◌, ◌*◌, ◌^◌, ◌<◌, ◌≤◌, sym, ap, ◌∙◌, subst, ⊎_elim, mul-le-mul_right, mul_assoc, mul_comm, lt_of_mul-lt-mul_right, mul-le-mul_left, mul-lt-mul_of_pos_right, le_of_mul-le-mul_right, arith, pow-add}
use Rattle.std.proofs.lemmas.Bool.{cases_lt}
use Rattle.decimals.specs.Number.{size}
use Rattle.decimals.proofs.Powers.{ten_pos}
use Rattle.decimals.proofs.Sizes.{size_above, size_le, size_ge, size_is}

pub ten_add : (x i j : ℕ) → x * 10 ^ (i + j) ≡ x * 10 ^ i * 10 ^ j
ten_add x i j = ap (λ n. x * n) (pow-add 10 i j) ∙ sym (mul_assoc x (10 ^ i) (10 ^ j))

pub cancel : (x y k : ℕ) → x * 10 ^ k ≡ y * 10 ^ k → x ≡ y
cancel x y k e =
    let p = ten_pos k in
    let a : x * 10 ^ k ≤ y * 10 ^ k = omega arith in
    let b : y * 10 ^ k ≤ x * 10 ^ k = omega arith in
    omega (arith, le_of_mul-le-mul_right a p, le_of_mul-le-mul_right b p)

pub cancel_le : (x y k : ℕ) → x * 10 ^ k ≤ y * 10 ^ k → x ≤ y
cancel_le x y k e = le_of_mul-le-mul_right e (ten_pos k)

pub cancel_lt : (x y k : ℕ) → x * 10 ^ k < y * 10 ^ k → x < y
cancel_lt x y k e = lt_of_mul-lt-mul_right (10 ^ k) e

-- a number that is not zero reaches the power just below its size
pub size_reaches : (v : ℕ) → 0 < v → (d : ℕ) × (size v ≡ d + 1) × (10 ^ d ≤ v)
size_reaches v p =
    let g = size_ge v 0 p in
    (size v - 1, omega arith, ⊎_elim (λ l. absurd (omega (arith, size_le v (size v - 1) l))) (λ h. h) (cases_lt v (10 ^ (size v - 1))))

-- with a places added
pub size_shift : (v a : ℕ) → 0 < v → size (v * 10 ^ a) ≡ size v + a
size_shift v a p =
    let r = size_reaches v p in
    let d = r.0 in
    let lo : 10 ^ (d + a) ≤ v * 10 ^ a = subst (λ n. n ≤ v * 10 ^ a) (sym (pow-add 10 d a)) (mul-le-mul_right (10 ^ a) r.2) in
    let up : v < 10 ^ (d + 1) = subst (λ n. v < 10 ^ n) r.1 (size_above v) in
    let hi : v * 10 ^ a < 10 ^ (d + 1 + a) = subst (λ n. v * 10 ^ a < n) (sym (pow-add 10 (d + 1) a)) (mul-lt-mul_of_pos_right up (ten_pos a)) in
    let e : d + 1 + a ≡ (d + a) + 1 = omega arith in
    size_is (v * 10 ^ a) (d + a) lo (subst (λ n. v * 10 ^ a < 10 ^ n) e hi) ∙ omega (arith, r.1)

-- of two products that are equal, the sizes and the places add up alike
pub sizes_add : (v a w b : ℕ) → 0 < v → 0 < w → v * 10 ^ a ≡ w * 10 ^ b → size v + a ≡ size w + b
sizes_add v a w b p q e = sym (size_shift v a p) ∙ (ap size e ∙ size_shift w b q)

pub bound_lo : (v k c d : ℕ) → d ≡ c + 1 → 10 ^ c ≤ v → 10 ^ k * 10 ^ d ≤ v * 10 ^ (k + 1)
bound_lo v k c d e h =
    let x : k + d ≡ c + (k + 1) = omega arith in
    subst (λ n. n ≤ v * 10 ^ (k + 1)) (sym (sym (pow-add 10 k d) ∙ (ap (λ n. 10 ^ n) x ∙ pow-add 10 c (k + 1)))) (mul-le-mul_right (10 ^ (k + 1)) h)

pub bound_hi : (v k d : ℕ) → v < 10 ^ d → v * 10 ^ (k + 1) < 10 ^ (k + 1) * 10 ^ d
bound_hi v k d h = subst (λ n. v * 10 ^ (k + 1) < n) (mul_comm (10 ^ d) (10 ^ (k + 1))) (mul-lt-mul_of_pos_right h (ten_pos (k + 1)))

pub times_pos : (v a : ℕ) → 0 < v → 0 < v * 10 ^ a
times_pos v a h = omega (arith, mul-le-mul_left v (ten_pos a))
