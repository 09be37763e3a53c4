-- Lines that are ended, and split again. Assumes nothing.
use Rattle.std.proofs.Common.{◌≡◌, ℕ, ◌+◌, ◌*◌, List, [], ◌∷◌, ◌++◌, length, sym, refl, ap, ◌∙◌, mul-suc, arith}
use Rattle.copies.specs.Copy.{ended}
use Rattle.frame.specs.Lines.{glue, lines}
use Rattle.record_laws.specs.Valid.{Printable}
use Rattle.std.proofs.lemmas.List.{append_assoc, length-append}
use Rattle.std.proofs.lemmas.Bool.{cond-false, ne_eqb}
use Rattle.std.specs.List.{AllByRecursion as All}

-- a line without byte 10, and what follows its end
split_one : (l r : List ℕ) → All (λ c. c ≡ 10 → ⊥) l → lines (l ++ (10 ∷ r)) ≡ l ∷ lines r
split_one [] r a = refl
split_one (c ∷ l) r a = cond-false _ _ _ (ne_eqb c 10 a.0) ∙ ap (glue c) (split_one l r a.1)

pub split-lines : (ls : List (List ℕ)) → All (All (λ c. c ≡ 10 → ⊥)) ls → lines (ended ls) ≡ ls
split-lines [] a = refl
split-lines (l ∷ ls) a = split_one l (ended ls) a.0 ∙ ap (λ (x : List (List ℕ)). l ∷ x) (split-lines ls a.1)

-- a byte that can be printed ends no line
pub printed_unbroken : (l : List ℕ) → Printable l → All (λ c. c ≡ 10 → ⊥) l
printed_unbroken [] p = tt
printed_unbroken (c ∷ l) p = (λ e. let h = p.0.0 in omega arith, printed_unbroken l p.1)

pub ended_both : (xs ys : List (List ℕ)) → ended (xs ++ ys) ≡ ended xs ++ ended ys
ended_both [] ys = refl
ended_both (l ∷ xs) ys = ap (λ x. l ++ (10 ∷ x)) (ended_both xs ys) ∙ sym (append_assoc l (10 ∷ ended xs) (ended ys))

pub length_ended_both : (xs ys : List (List ℕ)) → length (ended (xs ++ ys)) ≡ length (ended xs) + length (ended ys)
length_ended_both xs ys = ap length (ended_both xs ys) ∙ length-append (ended xs) (ended ys)

pub length_ended_more : (l : List ℕ) (ls : List (List ℕ)) → length (ended (l ∷ ls)) ≡ length l + (1 + length (ended ls))
length_ended_more l ls = length-append l (10 ∷ ended ls) ∙ omega arith

-- each line is as long, and has its end
pub length_ended_all : (w : ℕ) (ls : List (List ℕ)) → All (λ l. length l ≡ w) ls → length (ended ls) ≡ (w + 1) * length ls
length_ended_all w [] a = omega arith
length_ended_all w (l ∷ ls) a =
    let r : length (ended ls) ≡ (w + 1) * length ls = length_ended_all w ls a.1 in
    let n = length_ended_more l ls in
    let h = a.0 in
    omega (arith, mul-suc (w + 1) (length ls))
