-- Lines made of the same parts are the same. Assumes nothing.
use Rattle.std.proofs.Common.{◌≡◌, ℕ, List, [], ◌∷◌, ◌++◌, refl, ap, ◌∙◌}
use Rattle.headings.specs.Copies.{joined}

-- the same parts one by one
abbrev pub Alike : List (List ℕ) → List (List ℕ) → Type 0
Alike [] [] = Unit {0}
Alike [] (q ∷ qs) = ⊥
Alike (p ∷ ps) [] = ⊥
Alike (p ∷ ps) (q ∷ qs) = (p ≡ q) × Alike ps qs

pub same-joined : (ps qs : List (List ℕ)) → Alike ps qs → joined ps ≡ joined qs
same-joined [] [] f = refl
same-joined [] (q ∷ qs) f = absurd f
same-joined (p ∷ ps) [] f = absurd f
same-joined (p ∷ ps) (q ∷ qs) f = ap (λ t. t ++ joined ps) f.0 ∙ ap (λ t. q ++ t) (same-joined ps qs f.1)
