-- Blanks at the front, and texts of blanks alone.
use Rattle.std.proofs.Common.{arith, drop, ◌≡◌, ℕ, zero, suc, true, eqb, List, [], ◌∷◌, ◌++◌, replicate, sym, refl, ap, ◌∙◌, ⊎_elim}
use Rattle.std.proofs.lemmas.List.{append-nil}
use Rattle.std.proofs.lemmas.Bool.{cond-true, cond-false, cases_Bool, eqb-true, false≢true}
use Rattle.std.specs.List.{list_all, prefix_len}
use Rattle.decimals.specs.Scan.{unblank}
use Rattle.decimals.specs.Number.{blank, is_empty}

pub unblank-blanks : (n : ℕ) (t : List ℕ) → unblank (replicate n 32 ++ t) ≡ unblank t
unblank-blanks zero t = refl
unblank-blanks (suc n) t = unblank-blanks n t

pub blank-blanks : (n : ℕ) → blank (replicate n 32) ≡ true
blank-blanks zero = refl
blank-blanks (suc n) = blank-blanks n

-- a text is blanks, and what follows them
pub unblank-split : (t : List ℕ) → (n : ℕ) × (t ≡ replicate n 32 ++ unblank t)
unblank-split [] = (0, refl)
unblank-split (c ∷ cs) =
    ⊎_elim
    (λ y.
    let r = unblank-split cs in
    let e : unblank (c ∷ cs) ≡ unblank cs = cond-true _ _ _ y in
    (suc r.0, ap (λ x. x ∷ cs) (eqb-true c 32 y) ∙ (ap (λ x. 32 ∷ x) r.1 ∙ ap (λ x. 32 ∷ (replicate r.0 32 ++ x)) (sym e))))
    (λ f. (0, sym (cond-false _ _ _ f)))
    (cases_Bool (eqb c 32))

empty_is : (t : List ℕ) → is_empty t ≡ true → t ≡ []
empty_is [] e = refl
empty_is (c ∷ cs) e = absurd (false≢true e)

pub blank_is : (t : List ℕ) → blank t ≡ true → (n : ℕ) × (t ≡ replicate n 32)
blank_is t e =
    let r = unblank-split t in
    (r.0, r.1 ∙ (ap (λ x. replicate r.0 32 ++ x) (empty_is (unblank t) e) ∙ append-nil (replicate r.0 32)))

pub blank_all : (t : List ℕ) → blank t ≡ list_all (λ c. eqb c 32) t
blank_all [] = refl
blank_all (c ∷ cs) = let h = blank_all cs in grind arith

-- what follows the blanks, by how many they are
pub unblank-drop : (t : List ℕ) → unblank t ≡ drop (prefix_len (λ c. eqb c 32) t) t
unblank-drop [] = refl
unblank-drop (c ∷ cs) =
    ⊎_elim
    (λ t.
    let e : prefix_len (λ x. eqb x 32) (c ∷ cs) ≡ suc (prefix_len (λ x. eqb x 32) cs) = cond-true _ _ _ t ∙ omega arith in
    cond-true _ _ _ t ∙ (unblank-drop cs ∙ ap (λ k. drop k (c ∷ cs)) (sym e)))
    (λ f. cond-false _ _ _ f ∙ ap (λ k. drop k (c ∷ cs)) (sym (cond-false _ _ _ f)))
    (cases_Bool (eqb c 32))
