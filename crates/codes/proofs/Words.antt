-- Words among blanks.
use Rattle.std.proofs.lemmas.Grind.{common_steps}
use Rattle.std.proofs.Common.{◌≡◌, ℕ, zero, suc, ◌+◌, ◌<◌, ◌≤◌, true, false, List, [], ◌∷◌, length, get_or, take, drop, Ok, sym, refl, ap, ◌∙◌, arith, ◌≢◌}
use Rattle.std.proofs.lemmas.Bool.{eq-eqb, ne_eqb, cond-true, cond-false, cond_both, and_from, le-leb}
use Rattle.decimals.specs.Scan.{unblank}
use Rattle.decimals.specs.Number.{blank, is_empty}
use Rattle.codes.specs.Text.{word, after_word, padded, read_text, filled}

pub word_none : (x : ℕ) (xs : List ℕ) → x ≡ 32 → length (word (x ∷ xs)) ≡ 0
word_none x xs e = ap length (cond-true _ _ _ (eq-eqb x 32 e))

pub word_more : (x : ℕ) (xs : List ℕ) → x ≢ 32 → length (word (x ∷ xs)) ≡ length (word xs) + 1
word_more x xs n = ap length (cond-false _ _ _ (ne_eqb x 32 n)) ∙ omega arith

-- a word is a front of the text, and what follows is the rest
pub word_is : (t : List ℕ) → (take (length (word t)) t ≡ word t) × (drop (length (word t)) t ≡ after_word t)
word_is [] = (refl, refl)
word_is (c ∷ cs) = let r = word_is cs in (grind (arith, common_steps), grind (arith, common_steps))

pub text_yes : (n : ℕ) (bs : List ℕ) → 1 ≤ length (word (unblank bs)) → length (word (unblank bs)) ≤ n → blank (after_word (unblank bs)) ≡ true → read_text n bs ≡ Ok (padded n (word (unblank bs)))
text_yes n bs a b e = cond-true _ _ _ (and_from _ _ (le-leb 1 (length (word (unblank bs))) a) (and_from _ _ (le-leb (length (word (unblank bs))) n b) e))

pub word_front : (t : List ℕ) (n : ℕ) → n ≡ length (word t) → take n t ≡ word t
word_front t n e = ap (λ k. take k t) e ∙ (word_is t).0

pub word_rest : (t : List ℕ) (n : ℕ) → n ≡ length (word t) → drop n t ≡ after_word t
word_rest t n e = ap (λ k. drop k t) e ∙ (word_is t).1

-- ---- descriptions

pub filled_none : (t : List ℕ) → blank t ≡ true → filled t ≡ 0
filled_none [] e = refl
filled_none (c ∷ cs) e = cond-true _ _ _ e

blank_all : (t : List ℕ) → ((k : ℕ) → k < length t → get_or t k 0 ≡ 32) → blank t ≡ true
blank_all [] h = refl
blank_all (c ∷ cs) h = let r = blank_all cs (λ k b. h (suc k) (omega arith)) in let e = h 0 (omega arith) in grind (arith, common_steps)

blank_not : (t : List ℕ) (k : ℕ) → k < length t → get_or t k 0 ≢ 32 → blank t ≡ false
blank_not [] k h n = absurd (omega arith)
blank_not (c ∷ cs) zero h n = ap is_empty (cond-false _ _ _ (ne_eqb c 32 n))
blank_not (c ∷ cs) (suc k) h n = let r = blank_not cs k (omega arith) n in grind (arith, common_steps)

-- n bytes, of which the last is not blank, and blanks after them
pub filled_is : (t : List ℕ) (n : ℕ) → n ≤ length t → ((k : ℕ) → n ≤ k → k < length t → get_or t k 0 ≡ 32) → ((k : ℕ) → n ≡ k + 1 → get_or t k 0 ≢ 32) → n ≡ filled t
filled_is [] n h after last = omega arith
filled_is (c ∷ cs) zero h after last = sym (filled_none (c ∷ cs) (blank_all (c ∷ cs) (λ k b. after k (omega arith) b)))
filled_is (c ∷ cs) (suc n) h after last =
    let e = filled_is cs n (omega arith) (λ k a b. after (suc k) (omega arith) (omega arith)) (λ k p. last (suc k) (omega arith)) in
    let f : filled (c ∷ cs) ≡ 1 + filled cs = cond-false _ _ _ (blank_not (c ∷ cs) n (omega arith) (last n (omega arith))) in
    omega (arith, e, f)

pub filled_le : (t : List ℕ) → filled t ≤ length t
filled_le [] = omega arith
filled_le (c ∷ cs) = cond_both (blank (c ∷ cs)) 0 (1 + filled cs) (λ n. n ≤ suc (length cs)) (λ _. omega arith) (λ _. omega (arith, filled_le cs))
