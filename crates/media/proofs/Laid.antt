use Rattle.std.proofs.Common.{◌≡◌, ℕ, zero, suc, ◌+◌, ◌-◌, ◌*◌, ◌<◌, ◌≤◌, true, cond, eqb, List, [], ◌++◌, length, take, drop, replicate, sym, refl, ap, ◌∙◌, ⊎_elim, append_assoc, append-nil, arith, length-append, length-drop, length-take}
use native.Mathlib.Nat.{div-add-mod}
use lib.ListN.{length-replicate}
use Rattle.std.proofs.lemmas.Bool.{le-leb, eq-eqb, ne_eqb, cases_lt}
use Rattle.std.proofs.lemmas.List.{take_at, drop_at, take_all, take-append-drop, nil_from_length}
use Rattle.media.proofs.Held.{held_first}
use Rattle.media.specs.Blocks.{count, zeros, held_by, held, blocks, block_content, block, laid_out}

zeros-replicate : (n : ℕ) → zeros (replicate n 0) ≡ true
zeros-replicate zero = refl
zeros-replicate (suc n) = zeros-replicate n

length-block : (xs : List ℕ) → length xs ≤ 510 → length (block xs) ≡ 512
length-block xs h = simp (length-append, length-replicate) (omega arith)

count-block : (xs : List ℕ) → count (block xs) ≡ length xs
count-block xs = div-add-mod (length xs) 256

-- what the block of some bytes holds
block-holds : (xs after : List ℕ) → 1 ≤ length xs → length xs ≤ 510
    → held_by (block xs) after ≡ xs ++ cond (eqb (length xs) 510) after []
block-holds xs after one top =
    let fill : List ℕ = replicate (510 - length xs) 0 in
    let two : 2 + length xs ≡ suc (suc (length xs)) = omega arith in
    let z : zeros (drop (2 + length xs) (block xs)) ≡ true =
    ap (λ i. zeros (drop i (block xs))) two ∙ ap zeros (drop_at xs fill (length xs) refl) ∙ zeros-replicate (510 - length xs) in
    let p : take (length xs) (drop 2 (block xs)) ≡ xs = take_at xs fill (length xs) refl in
    rw (count-block xs, le-leb 1 (length xs) one, le-leb (length xs) 510 top, z, p)

-- fewer bytes than a block's payload: whatever the blocks behind hold, it is not looked at
short_block : (xs after : List ℕ) → length xs < 510 → held_by (block (take 510 xs)) after ≡ xs
short_block xs after few =
    ⊎_elim
    (λ (none : length xs < 1).
    let n : xs ≡ [] = nil_from_length xs (omega arith) in
    ap (λ l. held_by (block (take 510 l)) after) n ∙ sym n)
    (λ (some : 1 ≤ length xs).
    let ne : length xs ≡ 510 → ⊥ = omega arith in
    ap (λ l. held_by (block l) after) (take_all 510 xs (omega arith)) ∙ block-holds xs after some (omega arith)
    ∙ ap (λ b. xs ++ cond b after []) (ne_eqb (length xs) 510 ne) ∙ append-nil xs)
    (cases_lt (length xs) 1)

-- the bytes of the first block, and the others behind it
first_block : (xs : List ℕ) → held_by (block (take 510 xs)) (drop 510 xs) ≡ xs
first_block xs =
    ⊎_elim
    (λ (few : length xs < 510). short_block xs (drop 510 xs) few)
    (λ (many : 510 ≤ length xs).
    let l : length (take 510 xs) ≡ 510 = simp length-take (omega arith) in
    block-holds (take 510 xs) (drop 510 xs) (omega arith) (omega arith)
    ∙ ap (λ b. take 510 xs ++ cond b (drop 510 xs) []) (eq-eqb (length (take 510 xs)) 510 l) ∙ take-append-drop 510 xs)
    (cases_lt (length xs) 510)

length-first : (xs : List ℕ) → length (block (take 510 xs)) ≡ 512
length-first xs = length-block (take 510 xs) (simp length-take (omega arith))

length-laid : (n : ℕ) (xs : List ℕ) → length (laid_out n xs) ≡ 512 * n
length-laid zero xs = refl
length-laid (suc n) xs =
    length-append (block (take 510 xs)) (laid_out n (drop 510 xs))
    ∙ omega (arith, length-first xs, length-laid n (drop 510 xs))

held-laid : (n : ℕ) (xs : List ℕ) → length xs ≤ 510 * n → held n (laid_out n xs) ≡ xs
held-laid zero xs h = sym (nil_from_length xs (omega arith))
held-laid (suc n) xs h =
    let hr : length (drop 510 xs) ≤ 510 * n = simp length-drop (omega arith) in
    held_first n (block (take 510 xs)) (laid_out n (drop 510 xs)) (length-first xs)
    ∙ ap (λ x. held_by (block (take 510 xs)) x) (held-laid n (drop 510 xs) hr)
    ∙ first_block xs

held_behind : (n k : ℕ) (xs ys : List ℕ) → length xs < 510 * n → held (n + k) (laid_out n xs ++ ys) ≡ xs
held_behind zero k xs ys h = absurd (omega arith)
held_behind (suc n) k xs ys h =
    let b = block (take 510 xs) in
    let r = laid_out n (drop 510 xs) in
    let m : suc n + k ≡ suc (n + k) = omega arith in
    ap (λ i. held i ((b ++ r) ++ ys)) m ∙ ap (held (suc (n + k))) (append_assoc b r ys) ∙ held_first (n + k) b (r ++ ys) (length-first xs)
    ∙ ⊎_elim
    (λ (few : length xs < 510). short_block xs (held (n + k) (r ++ ys)) few)
    (λ (many : 510 ≤ length xs).
    let hr : length (drop 510 xs) < 510 * n = simp length-drop (omega arith) in
    ap (λ x. held_by b x) (held_behind n k (drop 510 xs) ys hr) ∙ first_block xs)
    (cases_lt (length xs) 510)

pub reads_back : (n : ℕ) (xs : List ℕ) → n ≤ 196078 → length xs ≤ 510 * n → block_content (laid_out n xs) ≡ xs
reads_back n xs most h =
    let k : blocks (laid_out n xs) ≡ n = omega (arith, length-laid n xs) in
    ap (λ i. held i (laid_out n xs)) k ∙ held-laid n xs h

pub rest-unread : (n : ℕ) (xs ys : List ℕ) → n ≤ 196078 → length xs < 510 * n → block_content (laid_out n xs ++ ys) ≡ xs
rest-unread n xs ys most h =
    let l : length (laid_out n xs ++ ys) ≡ 512 * n + length ys =
    length-append (laid_out n xs) ys ∙ ap (λ i. i + length ys) (length-laid n xs) in
    let k : blocks (laid_out n xs ++ ys) ≡ n + (blocks (laid_out n xs ++ ys) - n) = omega arith in
    ap (λ i. held i (laid_out n xs ++ ys)) k ∙ held_behind n (blocks (laid_out n xs ++ ys) - n) xs ys h
