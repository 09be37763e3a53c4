-- Whole numbers on the right of their columns.
use Rattle.std.specs.Prelude.{ℕ, Bool, cond, List, [], ◌∷◌, ◌==◌}
use Rattle.decimals.specs.Write.{fixed}

-- blanks for the zeros in front, but for the last digit
abbrev pub blanked : List ℕ → List ℕ
blanked [] = []
blanked (c ∷ []) = c ∷ []
blanked (c ∷ (d ∷ ds)) = cond (c == 48) (32 ∷ blanked (d ∷ ds)) (c ∷ (d ∷ ds))

-- a minus sign for the last of the blanks in front
abbrev pub marked : List ℕ → List ℕ
marked [] = []
marked (c ∷ []) = 45 ∷ []
marked (c ∷ (d ∷ ds)) = cond (d == 32) (c ∷ marked (d ∷ ds)) (45 ∷ (d ∷ ds))

-- n, or -n, on the right of w columns
abbrev pub justified : Bool → ℕ → ℕ → List ℕ
justified neg w n = cond neg (marked (blanked (fixed w n))) (blanked (fixed w n))
