-- One element stated, and elements one after another. Assumes nothing.
use Rattle.std.proofs.Common.{◌≡◌, ℕ, suc, ◌+◌, ◌<◌, min, Bool, true, false, cond, not, ◌&&◌, ◌||◌, List, ◌∷◌, length, get_or, drop, sym, refl, ap, ◌∙◌, arith}
use mathlib.Core.Path.{fun_ext}
use Rattle.std.proofs.lemmas.List.{drop_more}
use Rattle.std.proofs.lemmas.Bool.{and_parts, and_from, cond-true, cond-false}
use Rattle.triangle.specs.declared.row.Element.{Element}
use Rattle.triangle.specs.declared.row.Side.{Side}
use Rattle.triangle.specs.Triangle.{same, seen}
use Rattle.triangle.specs.Statements.{inside, on_side, rank_of, free, sound, stated, run, taken}

or_right : (b c : Bool) → c ≡ true → b || c ≡ true
or_right true c e = refl
or_right false c e = e

module _ {X : Type 0} (void : X → Bool) (ρ : List ℕ) (count : ℕ) (side : Side) (len : ℕ) where
  module _ (f : ℕ → ℕ → X) (e : Element X) where
    free-parts : free void ρ count side len f e ≡ true
        → (seen len (rank_of ρ e.row) (rank_of ρ e.column) ≡ true) × (void (f (rank_of ρ e.row) (rank_of ρ e.column)) ≡ true)
    free-parts t =
        and_parts (seen len (rank_of ρ e.row) (rank_of ρ e.column)) (void (f (rank_of ρ e.row) (rank_of ρ e.column)))
        (and_parts (inside (min count (length ρ)) e.row e.column && on_side side e.row e.column) _ t).1

    pub free_seen : true ≡ free void ρ count side len f e → seen len (rank_of ρ e.row) (rank_of ρ e.column) ≡ true
    free_seen t = (free-parts (sym t)).0

    pub free_void : free void ρ count side len f e ≡ true → void (f (rank_of ρ e.row) (rank_of ρ e.column)) ≡ true
    free_void t = (free-parts t).1

    pub free-sound : true ≡ free void ρ count side len f e → sound void ρ count side len f e ≡ true
    free-sound t = or_right (void e.value) (free void ρ count side len f e) (sym t)

    pub free_new : false ≡ void e.value → true ≡ free void ρ count side len f e → not (void e.value) && free void ρ count side len f e ≡ true
    free_new n t = and_from (not (void e.value)) (free void ρ count side len f e) (ap not (sym n)) (sym t)

    pub stated_zero : void e.value ≡ true → stated void ρ f e ≡ f
    stated_zero z = cond-true (void e.value) f _ z

    pub stated-at : void e.value ≡ false → (a b : ℕ) → stated void ρ f e a b ≡ cond (same (rank_of ρ e.row) (rank_of ρ e.column) a b) e.value (f a b)
    stated-at nz a b = ap (λ (h : ℕ → ℕ → X). h a b) (cond-false (void e.value) f _ nz)

  -- what is left of the elements gives what all of them give
  module _ (f₀ : ℕ → ℕ → X) (es : List (Element X)) where
    abbrev pub Left : (ℕ → ℕ → X) → ℕ → Type 0
    Left f k = (run void ρ count side len f (drop k es) ≡ run void ρ count side len f₀ es) × (taken void ρ count side len f (drop k es) + k ≡ taken void ρ count side len f₀ es)

    first : (k : ℕ) (x : Element X) → k < length es → x ≡ get_or es k x → drop k es ≡ x ∷ drop (k + 1) es
    first k x h read = drop_more es k x h ∙ ap (λ y. y ∷ drop (k + 1) es) (sym read)

    pub left_more : (f f' : ℕ → ℕ → X) (k : ℕ) (x : Element X) → k < length es → x ≡ get_or es k x → sound void ρ count side len f x ≡ true
        → ((a b : ℕ) → f' a b ≡ stated void ρ f x a b) → Left f k → Left f' (k + 1)
    left_more f f' k x h read ok is (p, q) =
        let same : f' ≡ stated void ρ f x = fun_ext (λ a. fun_ext (λ b. is a b)) in
        let m = first k x h read in
        let u : run void ρ count side len f (drop k es) ≡ run void ρ count side len (stated void ρ f x) (drop (k + 1) es) = ap (run void ρ count side len f) m ∙ cond-true _ _ _ ok in
        let v : taken void ρ count side len f (drop k es) ≡ suc (taken void ρ count side len (stated void ρ f x) (drop (k + 1) es)) = ap (taken void ρ count side len f) m ∙ cond-true _ _ _ ok in (
          ap (λ (h : ℕ → ℕ → X). run void ρ count side len h (drop (k + 1) es)) same ∙ sym u ∙ p,
          omega (arith, ap (λ (h : ℕ → ℕ → X). taken void ρ count side len h (drop (k + 1) es)) same, v, q),
        )

    pub left_stop : (f : ℕ → ℕ → X) (k : ℕ) (x : Element X) → k < length es → x ≡ get_or es k x → sound void ρ count side len f x ≡ false
        → Left f k → (f ≡ run void ρ count side len f₀ es) × (k ≡ taken void ρ count side len f₀ es)
    left_stop f k x h read bad (p, q) =
        let m = first k x h read in
        let u : run void ρ count side len f (drop k es) ≡ f = ap (run void ρ count side len f) m ∙ cond-false _ _ _ bad in
        let v : taken void ρ count side len f (drop k es) ≡ 0 = ap (taken void ρ count side len f) m ∙ cond-false _ _ _ bad in
        (sym u ∙ p, omega (arith, v, q))
