-- Steps of the loop that fills the working row. Assumes nothing.
use Rattle.std.proofs.Common.{◌≡◌, ℕ, ◌+◌, ◌<◌, ◌≤◌, ◌&&◌, List, [], ◌∷◌, ◌++◌, map, length, get_or, take, drop, set, Ordering, sym, ap, ◌∙◌, arith}
use Rattle.std.proofs.lemmas.List.{append_assoc, drop_more, length-map, length-take-le, map_more, set_at}
use Rattle.tables.specs.Rows.{known}
use Rattle.triangle.specs.Statements.{all_known}

-- one place more is filled
pub fill_more : {R : Type 0} (f : R → ℕ) (rs : List R) (row : List ℕ) (i : ℕ) (x : R) → i < length rs → length rs ≤ length row → x ≡ get_or rs i x
    → set (map f (take i rs) ++ drop i row) i (f x) ≡ map f (take (i + 1) rs) ++ drop (i + 1) row
fill_more f rs row i x lt le read =
    let m : length (map f (take i rs)) ≡ i = length-map (take i rs) f ∙ length-take-le i rs (omega arith) in
    ap (λ t. set (map f (take i rs) ++ t) i (f x)) (drop_more row i 0 (omega arith))
    ∙ set_at (map f (take i rs)) (get_or row i 0) (drop (i + 1) row) (f x) i m
    ∙ sym (append_assoc (map f (take i rs)) (f x ∷ []) (drop (i + 1) row))
    ∙ ap (λ y. (map f (take i rs) ++ f y ∷ []) ++ drop (i + 1) row) read
    ∙ ap (λ t. t ++ drop (i + 1) row) (sym (map_more f rs i x lt))

module _ {R : Type 0} (cmp : R → R → Ordering) (used : ℕ) (rows rs : List R) where
  pub known_more : (i : ℕ) (x : R) → i < length rs → x ≡ get_or rs i x → all_known cmp used rows (drop i rs) ≡ known cmp x used rows && all_known cmp used rows (drop (i + 1) rs)
  known_more i x lt read =
      ap (all_known cmp used rows) (drop_more rs i x lt)
      ∙ ap (λ y. known cmp y used rows && all_known cmp used rows (drop (i + 1) rs)) (sym read)
