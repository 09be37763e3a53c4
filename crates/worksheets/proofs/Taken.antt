-- The first line of a content, cut off.
use Rattle.std.proofs.Common.{◌≡◌, ℕ, zero, suc, ◌+◌, ◌-◌, ◌<◌, ◌≤◌, List, [], ◌∷◌, length, get_or, take, drop, Some, None, Option, MatchOption, sym, ap, ◌∙◌, add-one, arith}
use Rattle.frame.specs.Lines.{glue, lines}
use Rattle.std.proofs.lemmas.List.{drop_all, take_all, take_rest}
use Rattle.std.proofs.lemmas.Option.{MatchOption-at_none, MatchOption-at_some}
use Rattle.std.specs.List.{AllWithin, HoldsAt}
use Rattle.std.proofs.lemmas.Bool.{cond-false, cond-true, eq-eqb, ne_eqb}

-- n bytes before the first end of a line, or before the end of the content
pub cut : (bs : List ℕ) (n : ℕ) → 0 < length bs → n ≤ length bs → ((k : ℕ) → k < n → get_or bs k 0 ≡ 10 → ⊥) → (n < length bs → get_or bs n 0 ≡ 10)
    → lines bs ≡ take n bs ∷ lines (drop (suc n) bs)
cut [] n h w b f = absurd (omega arith)
cut (c ∷ cs) zero h w b f = cond-true _ _ _ (eq-eqb c 10 (f (omega arith)))
cut (c ∷ []) (suc zero) h w b f = cond-false _ _ _ (ne_eqb c 10 (b 0 (omega arith)))
cut (c ∷ []) (suc (suc m)) h w b f = absurd (omega arith)
cut (c ∷ (d ∷ ds)) (suc m) h w b f =
    cond-false _ _ _ (ne_eqb c 10 (b 0 (omega arith)))
    ∙ ap (glue c) (cut (d ∷ ds) m (omega arith) (omega arith) (λ k l e. b (suc k) (omega arith) e) (λ l. f (omega arith)))

-- the content is split behind its first end of a line, or has none
pub split_at : (bs : List ℕ) (n : ℕ) (r : Option ℕ) → MatchOption r (AllWithin (λ b. b ≡ 10 → ⊥) bs 0 (length bs)) (λ i. (i < length bs) × HoldsAt (λ b. b ≡ 10) bs i × AllWithin (λ b. b ≡ 10 → ⊥) bs 0 i)
    → r ≡ Some n → lines bs ≡ take n bs ∷ lines (take (length bs - (n + 1)) (drop (n + 1) bs))
split_at bs n r h e =
    let k = MatchOption-at_some _ _ n e h in
    cut bs n (omega arith) (omega arith) (λ i l. k.2 i 0 (omega arith) l) (λ _. k.1 0)
    ∙ ap (λ (rest : List ℕ). take n bs ∷ lines rest) (ap (λ (m : ℕ). drop m bs) (sym (add-one n)) ∙ sym (take_rest bs (n + 1)))

pub split_none : (bs : List ℕ) (r : Option ℕ) → 0 < length bs → MatchOption r (AllWithin (λ b. b ≡ 10 → ⊥) bs 0 (length bs)) (λ i. (i < length bs) × HoldsAt (λ b. b ≡ 10) bs i × AllWithin (λ b. b ≡ 10 → ⊥) bs 0 i)
    → r ≡ None → lines bs ≡ bs ∷ lines (take (length bs - length bs) (drop (length bs) bs))
split_none bs r w h e =
    let k = MatchOption-at_none _ _ e h in
    let rest : drop (suc (length bs)) bs ≡ drop (length bs) bs = drop_all (suc (length bs)) bs (omega arith) ∙ sym (drop_all (length bs) bs (omega arith)) in
    cut bs (length bs) w (omega arith) (λ i l. k i 0 (omega arith) l) (λ l. absurd (omega arith))
    ∙ ((λ i. take_all (length bs) bs (omega arith) i ∷ lines (rest i)) ∙ ap (λ (t : List ℕ). bs ∷ lines t) (sym (take_rest bs (length bs))))
