-- Lists padded to a number of places.
use Rattle.std.proofs.Common.{◌≡◌, ℕ, suc, ◌+◌, ◌-◌, ◌<◌, ◌≤◌, List, [], ◌∷◌, ◌++◌, length, take, set, replicate, sym, refl, ap, ◌∙◌, arith}
use Rattle.frame.specs.Lines.{padded}
use Rattle.std.proofs.lemmas.List.{set_at, append_assoc, length_push, length-append, length-replicate, length-take-le, take_more_set}

-- one element more, at the first free place
pub set-padded : {X : Type 0} (z : X) (n : ℕ) (xs : List X) (y : X) → length xs < n → set (padded z n xs) (length xs) y ≡ padded z n (xs ++ y ∷ [])
set-padded z n xs y h =
    let one : n - length xs ≡ suc (n - length (xs ++ y ∷ [])) = omega (arith, length_push xs y) in
    ap (λ (k : ℕ). set (xs ++ replicate k z) (length xs) y) one
    ∙ (set_at xs z (replicate (n - length (xs ++ y ∷ [])) z) y (length xs) refl ∙ sym (append_assoc xs (y ∷ []) _))

pub length-padded : {X : Type 0} (z : X) (n : ℕ) (xs : List X) → length xs ≤ n → length (padded z n xs) ≡ n
length-padded z n xs h = length-append xs (replicate (n - length xs) z) ∙ omega (arith, length-replicate (n - length xs) z)

-- one element more after the first k of a padded list
pub pushed : {X : Type 0} (z : X) (n : ℕ) (xs : List X) (k : ℕ) (y : X) → k ≤ n → xs ≡ padded z n (take k xs) → length (take k xs) < n
    → (k + 1 ≤ n) × (set xs k y ≡ padded z n (take (k + 1) (set xs k y)))
pushed z n xs k y w e h =
    let long : length xs ≡ n = ap length e ∙ length-padded z n (take k xs) (omega arith) in
    let here : length (take k xs) ≡ k = length-take-le k xs (omega arith) in
    let room : k < length xs = omega arith in
    (omega arith, (λ i. set (e i) (sym here i) y) ∙ (set-padded z n (take k xs) y h ∙ ap (padded z n) (sym (take_more_set xs k y room))))
