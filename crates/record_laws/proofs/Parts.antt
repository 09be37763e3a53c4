-- Lines made of parts of known widths: each part stands in its columns. Assumes nothing.
use Rattle.std.proofs.Common.{◌≡◌, ℕ, zero, suc, ◌+◌, List, [], ◌∷◌, ◌++◌, length, get_or, take, drop, Ok, Result, refl, ap, ◌∙◌, subst, arith}
use Rattle.std.proofs.Math.Seq.{drop-append-add, take-append_seam}
use Rattle.std.specs.List.{sum}
use Rattle.std.proofs.lemmas.Grind.{common_steps}
use Rattle.refusals.specs.declared.Fault.{Fault}
use Rattle.headings.specs.Copies.{joined}
use Rattle.headings.specs.Lines.{and_then}

-- a step of a line whose first field is read
pub then_step : {A B : Type 0} (r : Result A Fault) (a : A) (f : A → Result B Fault) {b : Result B Fault} → r ≡ Ok a → f a ≡ b → and_then r f ≡ b
then_step r a f e g = ap (λ t. and_then t f) e ∙ g

-- parts of these widths
abbrev pub Fits : List ℕ → List (List ℕ) → Type 0
Fits [] [] = Unit {0}
Fits [] (p ∷ ps) = ⊥
Fits (w ∷ ws) [] = ⊥
Fits (w ∷ ws) (p ∷ ps) = (length p ≡ w) × Fits ws ps

-- where part k begins
abbrev pub offset : ℕ → List ℕ → ℕ
offset zero ws = 0
offset (suc k) [] = 0
offset (suc k) (w ∷ ws) = w + offset k ws

pub part_at : (ws : List ℕ) (ps : List (List ℕ)) → Fits ws ps → (k : ℕ) → take (get_or ws k 0) (drop (offset k ws) (joined ps)) ≡ get_or ps k []
part_at [] [] f zero = refl
part_at [] [] f (suc k) = refl
part_at [] (p ∷ ps) f k = absurd f
part_at (w ∷ ws) [] f k = absurd f
part_at (w ∷ ws) (p ∷ ps) f zero = subst (λ n. take n (p ++ joined ps) ≡ p) f.0 (take-append_seam p (joined ps))
part_at (w ∷ ws) (p ∷ ps) f (suc k) =
    subst (λ n. take (get_or ws k 0) (drop (n + offset k ws) (p ++ joined ps)) ≡ get_or ps k []) f.0
    (ap (take (get_or ws k 0)) (drop-append-add p (joined ps) (offset k ws)) ∙ part_at ws ps f.1 k)

-- the width of all parts together
pub full_width : (ws : List ℕ) (ps : List (List ℕ)) → Fits ws ps → length (joined ps) ≡ sum ws
full_width [] [] f = refl
full_width [] (p ∷ ps) f = absurd f
full_width (w ∷ ws) [] f = absurd f
full_width (w ∷ ws) (p ∷ ps) f = let rest = full_width ws ps f.1 in grind (arith, common_steps)
