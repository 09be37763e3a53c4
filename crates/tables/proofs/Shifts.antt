-- The loops that shift a table's rows, what such a shift leaves, and a slice filled with one record. Assumes nothing.
use Rattle.std.proofs.Common.{◌≡◌, ℕ, suc, ◌+◌, ◌-◌, ◌<◌, ◌≤◌, List, [], ◌∷◌, ◌++◌, length, get_or, take, drop, set, replicate, sym, refl, ap, ◌∙◌, append_assoc, add-one, arith, take-append-drop}
use borrow.Rule.Slice.PartMut.{put_mid}
use Rattle.std.specs.List.{FoldsTo, copy_within, insert, remove}
use Rattle.std.proofs.lemmas.Grind.{common_steps}
use Rattle.std.proofs.lemmas.List.{append-nil, drop_all, drop-drop, drop_more, drop-set, drop-set-lt, drop-take, get_or-drop, get_or-take, length-drop, length-take-le, set_at, take_all, take_more, take_more_set, take-set-le, take_rest, take-take}

-- ---- every record but the last moves up: the places up to i are as they were

pub rise_start : {R : Type 0} (start : List R) (i : ℕ) → i + 1 ≡ length start → drop (i + 1) start ≡ drop i (take i start)
rise_start start i e =
    let n : length (take i start) ≡ i = length-take-le i start (omega arith) in
    drop_all (i + 1) start (omega arith) ∙ sym (drop_all i (take i start) (omega arith))

module _ {R : Type 0} (part start : List R) (u i j : ℕ) (d : R) (next : i ≡ j + 1) (top : i ≤ u) (long : u + 1 ≡ length start) (same : length part ≡ length start)
    (below : take (i + 1) part ≡ take (i + 1) start) where
  -- the record below place i
  abbrev x : R
  x = get_or part j d

  pub rise_take : take (j + 1) (set part i x) ≡ take (j + 1) start
  rise_take =
      let le : j + 1 ≤ i = omega arith in
      let lm : j + 1 ≤ i + 1 = omega arith in
      take-set-le (j + 1) part i x le ∙ sym (take-take (j + 1) (i + 1) part lm) ∙ ap (take (j + 1)) below ∙ take-take (j + 1) (i + 1) start lm

  pub rise_drop : drop (i + 1) part ≡ drop i (take u start) → drop (j + 1) (set part i x) ≡ drop j (take u start)
  rise_drop above =
      let n : length (take u start) ≡ u = length-take-le u start (omega arith) in
      let was : x ≡ get_or (take u start) j d =
      sym (get_or-take (i + 1) part j d (omega arith))
      ∙ ap (λ t. get_or t j d) below
      ∙ get_or-take (i + 1) start j d (omega arith)
      ∙ sym (get_or-take u start j d (omega arith)) in
      ap (λ t. drop t (set part i x)) (sym next)
      ∙ drop-set part i x (omega arith)
      ∙ ap (λ t. x ∷ t) (above ∙ ap (λ t. drop t (take u start)) next)
      ∙ ap (λ y. y ∷ drop (j + 1) (take u start)) was
      ∙ sym (drop_more (take u start) j d (omega arith))

pub rise_end : {R : Type 0} (part start : List R) (i u : ℕ) → i ≡ 0 → u ≡ length start - 1 → take (i + 1) part ≡ take (i + 1) start → drop (i + 1) part ≡ drop i (take u start)
    → part ≡ take 1 start ++ take (length start - 1) start
rise_end part start i u e last below above =
    sym (take-append-drop (i + 1) part)
    ∙ ap (λ t. t ++ drop (i + 1) part) below
    ∙ ap (λ t. take (i + 1) start ++ t) above
    ∙ ap (λ n. take (n + 1) start ++ drop n (take u start)) e
    ∙ ap (λ n. take 1 start ++ take n start) last

-- ---- every record but the first moves down: the places from i on are as they were

module _ {R : Type 0} (part start : List R) (i : ℕ) (d : R) (lt : i + 1 < length start) (same : length part ≡ length start) (above : drop i part ≡ drop i start) where
  fall_read : get_or part (i + 1) d ≡ get_or (drop 1 start) i d
  fall_read =
      sym (get_or-drop i part 1 d)
      ∙ ap (λ t. get_or t 1 d) above
      ∙ get_or-drop i start 1 d
      ∙ ap (λ n. get_or start n d) (omega arith)
      ∙ sym (get_or-drop 1 start i d)

  pub fall_take : take i part ≡ take i (drop 1 start) → take (i + 1) (set part i (get_or part (i + 1) d)) ≡ take (i + 1) (drop 1 start)
  fall_take below =
      let n : length (drop 1 start) ≡ length start - 1 = length-drop 1 start in
      take_more_set part i (get_or part (i + 1) d) (omega arith)
      ∙ ap (λ t. t ++ get_or part (i + 1) d ∷ []) below
      ∙ ap (λ y. take i (drop 1 start) ++ y ∷ []) fall_read
      ∙ sym (take_more (drop 1 start) i d (omega arith))

  pub fall_drop : drop (i + 1) (set part i (get_or part (i + 1) d)) ≡ drop (i + 1) start
  fall_drop =
      drop-set-lt (i + 1) part i (get_or part (i + 1) d) (omega arith)
      ∙ sym (drop-drop 1 i part)
      ∙ ap (drop 1) above
      ∙ drop-drop 1 i start

pub fall_end : {R : Type 0} (part start : List R) (i : ℕ) → i ≡ length start - 1 → take i part ≡ take i (drop 1 start) → drop i part ≡ drop i start
    → part ≡ drop 1 start ++ drop (length start - 1) start
fall_end part start i e below above =
    let n : length (drop 1 start) ≡ length start - 1 = length-drop 1 start in
    sym (take-append-drop i part)
    ∙ ap (λ t. t ++ drop i part) (below ∙ take_all i (drop 1 start) (omega arith))
    ∙ ap (λ t. drop 1 start ++ t) above
    ∙ ap (λ m. drop 1 start ++ drop m start) e

-- the shifts in the words of the library
pub risen : {R : Type 0} (part start : List R) → 0 < length start → part ≡ take 1 start ++ take (length start - 1) start → part ≡ copy_within start 0 (length start - 1) 1
risen part start lt e =
    let same : length start - 1 ≡ length start - 1 - 0 = omega arith in
    let past : drop (1 + (length start - 1)) start ≡ [] = drop_all (1 + (length start - 1)) start (omega arith) in
    e
    ∙ sym (append-nil (take 1 start ++ take (length start - 1) start))
    ∙ ap (λ t. take 1 start ++ take (length start - 1) start ++ t) (sym past)
    ∙ ap (λ n. take 1 start ++ take n start ++ drop (1 + n) start) same

pub fallen : {R : Type 0} (part start : List R) → part ≡ drop 1 start ++ drop (length start - 1) start → part ≡ copy_within start 1 (length start) 0
fallen part start e =
    e
    ∙ ap (λ t. t ++ drop (length start - 1) start) (sym (take_all (length start - 1) (drop 1 start) (omega (arith, length-drop 1 start))))
    ∙ ap (λ n. take (length start - 1) (drop 1 start) ++ drop n start) (omega arith)

-- every row but the last moved up by one, and r put first
moved_up : {R : Type 0} (xs : List R) (r : R) → 0 < length xs → set (copy_within xs 0 (length xs - 1) 1) 0 r ≡ r ∷ take (length xs - 1) xs
moved_up xs r lt = grind (arith, common_steps)

-- every row but the first moved down by one, and b put last
moved_down : {R : Type 0} (xs : List R) (b : R) → 0 < length xs → set (copy_within xs 1 (length xs) 0) (length xs - 1) b ≡ drop 1 xs ++ b ∷ []
moved_down xs b lt =
    let m = length xs - 1 in
    let n : length (drop 1 xs) ≡ m = length-drop 1 xs in
    let last : drop m xs ≡ get_or xs m b ∷ [] = drop_more xs m b (omega arith) ∙ ap (λ t. get_or xs m b ∷ t) (drop_all (m + 1) xs (omega arith)) in
    let from : drop (0 + m) xs ≡ drop m xs = ap (λ i. drop i xs) (omega arith) in
    ap (λ t. set ([] ++ t ++ drop (0 + m) xs) m b) (take_all m (drop 1 xs) (omega arith))
    ∙ ap (λ t. set ([] ++ drop 1 xs ++ t) m b) (from ∙ last)
    ∙ set_at (drop 1 xs) (get_or xs m b) [] b m n

-- the same of the rows from place k on, seen from all of them
module _ {R : Type 0} (xs : List R) (k : ℕ) (b : R) (lt : k < length xs) where
  abbrev later : List R
  later = take (length xs - k) (drop k xs)

  same : later ≡ drop k xs
  same = take_rest xs k

  long : length later ≡ length xs - k
  long = ap length same ∙ length-drop k xs

  past : drop (length xs - k) (drop k xs) ≡ []
  past = drop_all (length xs - k) (drop k xs) (omega (arith, length-drop k xs))

  pub shifted_up : put_mid k (length xs - k) xs (set (copy_within later 0 (length later - 1) 1) 0 b) ≡ insert (take (length xs - 1) xs) k b
  shifted_up =
      let m = length later - 1 in
      let n : length later ≡ length xs - k = long in
      let whole : k + m ≡ length xs - 1 = omega arith in
      let inner : drop k (take (length xs - 1) xs) ≡ take m later = ap (λ i. drop k (take i xs)) (sym whole) ∙ drop-take k m xs ∙ ap (take m) (sym same) in
      ap (λ t. take k xs ++ (t ++ drop (length xs - k) (drop k xs))) (moved_up later b (omega arith))
      ∙ ap (λ t. take k xs ++ (b ∷ take m later ++ t)) past
      ∙ ap (λ t. take k xs ++ b ∷ t) (append-nil (take m later) ∙ sym inner)
      ∙ ap (λ t. t ++ b ∷ drop k (take (length xs - 1) xs)) (sym (take-take k (length xs - 1) xs (omega arith)))

  pub shifted_down : put_mid k (length xs - k) xs (set (copy_within later 1 (length later) 0) (length later - 1) b) ≡ remove xs k ++ b ∷ []
  shifted_down =
      let n : length later ≡ length xs - k = long in
      let after : drop 1 later ≡ drop (suc k) xs = ap (drop 1) same ∙ drop-drop 1 k xs ∙ ap (λ i. drop i xs) (add-one k) in
      ap (λ t. take k xs ++ (t ++ drop (length xs - k) (drop k xs))) (moved_down later b (omega arith))
      ∙ ap (λ t. take k xs ++ (drop 1 later ++ b ∷ [] ++ t)) past
      ∙ ap (λ t. take k xs ++ t) (append-nil (drop 1 later ++ b ∷ []))
      ∙ ap (λ t. take k xs ++ (t ++ b ∷ [])) after
      ∙ sym (append_assoc (take k xs) (drop (suc k) xs) (b ∷ []))

-- a list each of whose items is b
pub filled_with : {F R : Type 0} (step : F → R → F → Type 0) (b : R) → ((f g : F) (x : R) → step f x g → x ≡ b) → (f last : F) (xs : List R) → FoldsTo step f xs last
    → xs ≡ replicate (length xs) b
filled_with step b gives f last [] ran = refl
filled_with step b gives f last (x ∷ xs) (j, one, rest) = ap (λ y. y ∷ xs) (gives f j x one) ∙ ap (λ l. b ∷ l) (filled_with step b gives j last xs rest)
