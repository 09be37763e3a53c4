-- What blocks hold after a write to the first of them.
use Rattle.std.proofs.Common.{length-take, ◌-◌, ◌≡◌, ℕ, zero, suc, ◌+◌, ◌/◌, ◌%◌, ◌<◌, ◌≤◌, true, ◌≢◌, List, [], ◌∷◌, ◌++◌, length, get_or, take, drop, set, sym, refl, ap, ◌∙◌, append-nil, arith, length-drop, length-set, get_or-set_other, get_or-set_same, drop-set-lt}
use native.Mathlib.Nat.{div-add-mod}
use lib.Seq.{take-set-lt, drop-set-add}
use borrow.Rule.Slice.PartMut.{put_mid, post_of}
use Rattle.std.proofs.lemmas.Slice.{take-put_mid_below}
use Rattle.std.proofs.lemmas.List.{drop_at, take-append-le}
use Rattle.std.proofs.lemmas.Bool.{le-leb}
use Rattle.std.proofs.lemmas.Bool.Decides.{nat_tests}
use Rattle.std.proofs.lemmas.List.{take_more_set, drop-drop, length-take-le}
use Rattle.media.specs.Blocks.{count, zeros, held}

-- a block with the count 0 holds nothing
pub held_none : (n : ℕ) (bs : List ℕ) → count (take 512 bs) ≡ 0 → held n bs ≡ []
held_none zero bs e = refl
held_none (suc n) bs e = rw e

-- what a block holds after a write to it
made_suc : (n : ℕ) (r xs : List ℕ) (k : ℕ) → count (take 512 r) ≡ k → 1 ≤ k → k ≤ 510
    → zeros (drop (2 + k) (take 512 r)) ≡ true → take k (drop 2 (take 512 r)) ≡ xs
    → held n (drop 512 r) ≡ [] → held (suc n) r ≡ xs
made_suc n r xs k e one top z p q = rw (e, le-leb 1 k one, le-leb k 510 top, z, p, q) (grind (arith, nat_tests, append-nil))

pub made : (m : ℕ) (r xs : List ℕ) (k : ℕ) → 1 ≤ m → count (take 512 r) ≡ k → 1 ≤ k → k ≤ 510
    → zeros (drop (2 + k) (take 512 r)) ≡ true → take k (drop 2 (take 512 r)) ≡ xs
    → ((n : ℕ) → m ≡ suc n → held n (drop 512 r) ≡ []) → held m r ≡ xs
made zero r xs k h e one top z p q = absurd (omega arith)
made (suc n) r xs k h e one top z p q = made_suc n r xs k e one top z p (q n refl)

zeros_tail : (xs : List ℕ) → zeros xs ≡ true → zeros (drop 1 xs) ≡ true
zeros_tail [] e = refl
zeros_tail (x ∷ xs) e = grind arith

-- the block b with y as byte o of its payload, and its count
abbrev pub stamped : ℕ → ℕ → List ℕ → List ℕ
stamped o y b = set (set (set b (2 + o) y) 0 ((o + 1) / 256)) 1 ((o + 1) % 256)

pub stamped_count : (o y : ℕ) (b : List ℕ) → 2 ≤ length b → count (stamped o y b) ≡ o + 1
stamped_count o y b h =
    let l₂ = set b (2 + o) y in
    let l₁ = set l₂ 0 ((o + 1) / 256) in
    let n₂ : 0 < length l₂ = simp length-set (omega arith) in
    let n₁ : 1 < length l₁ = simp length-set (omega arith) in
    let d : ◌≢◌ {A = ℕ} 0 1 = omega arith in
    let hi : get_or (stamped o y b) 0 0 ≡ (o + 1) / 256 = get_or-set_other l₁ 1 0 ((o + 1) % 256) 0 d ∙ get_or-set_same l₂ 0 ((o + 1) / 256) 0 n₂ in
    let lo : get_or (stamped o y b) 1 0 ≡ (o + 1) % 256 = get_or-set_same l₁ 1 ((o + 1) % 256) 0 n₁ in
    rw (hi, lo) (div-add-mod (o + 1) 256)

pub stamped_zeros : (o y : ℕ) (b : List ℕ) → zeros (drop (2 + o) b) ≡ true → zeros (drop (2 + (o + 1)) (stamped o y b)) ≡ true
stamped_zeros o y b z =
    let n = 2 + (o + 1) in
    let e : drop n (stamped o y b) ≡ drop n b =
    drop-set-lt n (set (set b (2 + o) y) 0 ((o + 1) / 256)) 1 ((o + 1) % 256) (omega arith)
    ∙ drop-set-lt n (set b (2 + o) y) 0 ((o + 1) / 256) (omega arith) ∙ drop-set-lt n b (2 + o) y (omega arith) in
    let k : (2 + o) + 1 ≡ 2 + (o + 1) = omega arith in
    let t : drop 1 (drop (2 + o) b) ≡ drop (2 + (o + 1)) b = drop-drop 1 (2 + o) b ∙ ap (λ i. drop i b) k in
    ap zeros (e ∙ sym t) ∙ zeros_tail (drop (2 + o) b) z

pub stamped_pay : (o y : ℕ) (b : List ℕ) → 2 + o < length b → take (o + 1) (drop 2 (stamped o y b)) ≡ take o (drop 2 b) ++ y ∷ []
stamped_pay o y b h =
    let e : drop 2 (stamped o y b) ≡ set (drop 2 b) o y =
    drop-set-lt 2 (set (set b (2 + o) y) 0 ((o + 1) / 256)) 1 ((o + 1) % 256) (omega arith)
    ∙ drop-set-lt 2 (set b (2 + o) y) 0 ((o + 1) / 256) (omega arith) ∙ drop-set-add 2 b o y in
    let n : o < length (drop 2 b) = simp length-drop (omega arith) in
    ap (λ l. take (o + 1) l) e ∙ take_more_set (drop 2 b) o y n

-- the same of the block that a longer list begins with
pub stamped_take : (o y : ℕ) (r : List ℕ) → o < 510 → take 512 (stamped o y r) ≡ stamped o y (take 512 r)
stamped_take o y r h =
    take-set-lt 512 (set (set r (2 + o) y) 0 ((o + 1) / 256)) 1 ((o + 1) % 256) (omega arith)
    ∙ ap (λ l. set l 1 ((o + 1) % 256)) (take-set-lt 512 (set r (2 + o) y) 0 ((o + 1) / 256) (omega arith)
    ∙ ap (λ l. set l 0 ((o + 1) / 256)) (take-set-lt 512 r (2 + o) y (omega arith)))

-- a list r whose first block is the stamped one, and whose other blocks hold nothing
pub stamped_holds : (m o y : ℕ) (rest r : List ℕ) → 1 ≤ m → o < 510 → 512 ≤ length rest
    → take 512 r ≡ stamped o y (take 512 rest) → zeros (drop (2 + o) (take 512 rest)) ≡ true
    → ((n : ℕ) → m ≡ suc n → held n (drop 512 r) ≡ [])
    → held m r ≡ take o (drop 2 (take 512 rest)) ++ y ∷ []
stamped_holds m o y rest r one lt len e z q =
    let b = take 512 rest in
    let n : length b ≡ 512 = length-take-le 512 rest len in
    made m r (take o (drop 2 b) ++ y ∷ []) (o + 1) one
    (ap count e ∙ stamped_count o y b (omega arith)) (omega arith) (omega arith)
    (ap (λ l. zeros (drop (2 + (o + 1)) l)) e ∙ stamped_zeros o y b z)
    (ap (λ l. take (o + 1) (drop 2 l)) e ∙ stamped_pay o y b (omega arith))
    q

-- a list whose first block has the count 0
pub clear_first : (r : List ℕ) → 2 ≤ length r → count (take 512 (set (set r 0 0) 1 0)) ≡ 0
clear_first [] h = absurd (omega arith)
clear_first (x ∷ []) h = absurd (omega arith)
clear_first (x ∷ (y ∷ ys)) h = refl

-- a write of the count 0 to the second block
pub cleared_next : (r w : List ℕ) → 1024 ≤ length r → w ≡ set (set (take (length r - 512) (drop 512 r)) 0 0) 1 0
    → (take 512 (put_mid 512 (length r - 512) r w) ≡ take 512 r) × (count (take 512 (drop 512 (put_mid 512 (length r - 512) r w))) ≡ 0)
cleared_next r w h e =
    let v = take (length r - 512) (drop 512 r) in
    let lv : length v ≡ length r - 512 = simp (length-take, length-drop) (omega arith) in
    let lw : length w ≡ length v = ap length e ∙ simp length-set in (
      take-put_mid_below 512 (length r - 512) r w 512 (omega arith) (omega arith),
      ap (λ l. count (take 512 l)) (drop_at (take 512 r) (w ++ post_of 512 (length r - 512) r) 512 (length-take-le 512 r (omega arith)))
          ∙ ap count (take-append-le 512 w (post_of 512 (length r - 512) r) (omega arith))
          ∙ ap (λ l. count (take 512 l)) e ∙ clear_first v (omega arith),
    )
