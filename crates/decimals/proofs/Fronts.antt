-- What the functions of the front of a text are, one byte on.
use Rattle.std.proofs.Common.{suc, ◌^◌, ◌≡◌, ℕ, ◌+◌, ◌-◌, ◌*◌, ◌≤◌, true, List, [], ◌∷◌, length, get_or, take, drop, refl, arith}
use Rattle.std.proofs.lemmas.List.{take_rest}
use Rattle.std.proofs.lemmas.Bool.Decides.{nat_tests}
use Rattle.decimals.proofs.Powers.{digit_on}
use Rattle.decimals.specs.Scan.{is_digit, digits_from, count, past}

pub digit_yes : (c : ℕ) → 48 ≤ c → c ≤ 57 → is_digit c ≡ true
digit_yes c a b = grind (arith, nat_tests)

pub rest_of : (c : ℕ) (cs : List ℕ) → take (length (c ∷ cs) - 1) (drop 1 (c ∷ cs)) ≡ cs
rest_of c cs = take_rest (c ∷ cs) 1

-- a digit at the front, and the rest as `[digit, rest @ ..]` has it
pub digit_first : (v d : ℕ) (xs : List ℕ) → 1 ≤ length xs → 48 ≤ get_or xs 0 0 → get_or xs 0 0 ≤ 57 → d ≡ get_or xs 0 0 - 48
    → (digits_from v xs ≡ digits_from (v * 10 + d) (take (length xs - 1) (drop 1 xs)))
    × (count xs ≡ count (take (length xs - 1) (drop 1 xs)) + 1) × (past xs ≡ past (take (length xs - 1) (drop 1 xs)))
    × (length xs ≡ length (take (length xs - 1) (drop 1 xs)) + 1)
    × ((v * 10 + d + 1) * 10 ^ length (take (length xs - 1) (drop 1 xs)) ≤ (v + 1) * 10 ^ length xs)
digit_first v d [] h a b e = absurd (omega arith)
digit_first v d (c ∷ cs) h a b e =
    let l : suc (length cs) ≡ length cs + 1 = omega arith in
    rw (rest_of c cs, digit_yes c a b, e, l) (refl, omega arith, refl, refl, digit_on v (c - 48) (length cs) (omega arith))
