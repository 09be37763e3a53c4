-- The digits that are written are the digits that are read.
use Rattle.std.proofs.Common.{◌≡◌, ℕ, zero, suc, ◌+◌, ◌-◌, ◌*◌, ◌/◌, ◌%◌, ◌^◌, ◌<◌, ◌≤◌, true, List, ◌∷◌, ◌++◌, length, drop, set, sym, refl, ap, ◌∙◌, mul_assoc, mul_comm, add-mul, pow-suc, arith}
use Rattle.std.proofs.lemmas.List.{drop-set}
use lib.Arith.{mod-mul}
use native.Mathlib.Nat.{div-div-eq-div-mul, mod-one}
use Rattle.std.proofs.lemmas.Bool.{cond-true}
use Rattle.decimals.specs.Scan.{is_digit, digits_from, count, past}
use Rattle.decimals.specs.Write.{fixed}
use Rattle.decimals.proofs.Fronts.{digit_yes}
use Rattle.decimals.proofs.Powers.{ten_pos}

pub digit_of : (n : ℕ) → is_digit (48 + n % 10) ≡ true
digit_of n = let l : n % 10 < 10 = omega arith in digit_yes (48 + n % 10) (omega arith) (omega arith)

pub length-fixed : (k m : ℕ) → length (fixed k m) ≡ k
length-fixed zero m = refl
length-fixed (suc k) m = ap suc (length-fixed k m)

pub fixed-count : (k m : ℕ) (r : List ℕ) → count (fixed k m ++ r) ≡ k + count r
fixed-count zero m r = omega arith
fixed-count (suc k) m r = cond-true _ _ _ (digit_of (m / 10 ^ k)) ∙ omega (arith, fixed-count k m r)

pub fixed-past : (k m : ℕ) (r : List ℕ) → past (fixed k m ++ r) ≡ past r
fixed-past zero m r = refl
fixed-past (suc k) m r = cond-true _ _ _ (digit_of (m / 10 ^ k)) ∙ fixed-past k m r

-- one place more on the left
pub place_more : (v m k : ℕ) → (v * 10 + m / 10 ^ k % 10) * 10 ^ k + m % 10 ^ k ≡ v * 10 ^ suc k + m % 10 ^ suc k
place_more v m k =
    let p : 10 ^ suc k ≡ 10 * 10 ^ k = pow-suc 10 k ∙ mul_comm (10 ^ k) 10 in
    let t : 0 < 10 = omega arith in
    let q : m % (10 * 10 ^ k) ≡ (m / 10 ^ k % 10) * 10 ^ k + m % 10 ^ k = mod-mul m t (ten_pos k) in
    rw p (rw q (omega (arith, add-mul (v * 10) (m / 10 ^ k % 10) (10 ^ k), mul_assoc v 10 (10 ^ k))))

pub fixed-value : (v k m : ℕ) (r : List ℕ) → digits_from v (fixed k m ++ r) ≡ digits_from (v * 10 ^ k + m % 10 ^ k) r
fixed-value v zero m r = ap (λ n. digits_from n r) (omega (arith, mod-one m))
fixed-value v (suc k) m r =
    let d : (48 + m / 10 ^ k % 10) - 48 ≡ m / 10 ^ k % 10 = omega arith in
    cond-true _ _ _ (digit_of (m / 10 ^ k)) ∙ (ap (λ n. digits_from (v * 10 + n) (fixed k m ++ r)) d ∙ (fixed-value (v * 10 + m / 10 ^ k % 10) k m r ∙ ap (λ n. digits_from n r) (place_more v m k)))

pub fixed_more : (xs : List ℕ) (n i m r : ℕ) → length xs ≡ n → 0 < i → i ≤ n → drop i xs ≡ fixed (n - i) m → r ≡ m / 10 ^ (n - i) → drop (i - 1) (set xs (i - 1) (48 + r % 10)) ≡ fixed (n - (i - 1)) m
fixed_more xs n i m r l p h d e =
    let j : i - 1 + 1 ≡ i = omega arith in
    let k : suc (n - i) ≡ n - (i - 1) = omega arith in
    drop-set xs (i - 1) (48 + r % 10) (omega arith)
    ∙ (ap (λ t. (48 + r % 10) ∷ drop t xs) j
    ∙ (ap (λ t. (48 + r % 10) ∷ t) d
    ∙ (ap (λ t. (48 + t % 10) ∷ fixed (n - i) m) e ∙ ap (λ t. fixed t m) k)))

pub quotient_more : (n i m r : ℕ) → 0 < i → i ≤ n → r ≡ m / 10 ^ (n - i) → r / 10 ≡ m / 10 ^ (n - (i - 1))
quotient_more n i m r p h e =
    let k : suc (n - i) ≡ n - (i - 1) = omega arith in
    ap (λ t. t / 10) e ∙ (div-div-eq-div-mul m (10 ^ (n - i)) 10 ∙ (ap (λ t. m / t) (sym (pow-suc 10 (n - i))) ∙ ap (λ t. m / 10 ^ t) k))
