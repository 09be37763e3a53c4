-- Lemmas on words of a line, and on the search through the titles.
use Rattle.std.proofs.Common.{◌≡◌, ℕ, zero, suc, ◌+◌, Bool, true, false, cond, ◌&&◌, eqb, nat_eq, List, [], ◌∷◌, length, get_or, take, drop, Some, None, Option, Bor, Iter, MatchOption, sym, refl, ap, ◌∙◌, inl, inr, arith}
use Rattle.codes.specs.declared.letters.MatrixKind.{MatrixKind}
use Rattle.frame.specs.Headings.{begins, first_word_is, form, is_text, title_among}
use Rattle.frame.specs.Titles.{name_of}
use Rattle.frame.specs.declared.heading.MatrixForm.{MatrixForm}
use Rattle.frame.specs.declared.title.Title.{Title}
use Rattle.std.specs.Cmp.Lexicographic.{pointwise}
use Rattle.std.specs.List.{find}
use Rattle.std.proofs.iter.Yields.{fronts}
use Rattle.std.proofs.lemmas.Iterator.{YieldsList}
use Rattle.std.specs.Option.{option_map}
use Rattle.std.proofs.lemmas.Bool.{cases_Bool}
use Rattle.std.proofs.lemmas.Bool.Decides.{nat_tests}
use Rattle.std.proofs.lemmas.List.{drop_all}
use Rattle.triangle.specs.declared.row.Side.{Side}

-- what stands at the front is the word
begins_front : (xs ws : List ℕ) → begins xs ws ≡ pointwise nat_eq (take (length ws) xs) ws
begins_front xs [] = refl
begins_front [] (w ∷ ws) = refl
begins_front (x ∷ xs) (w ∷ ws) = ap (λ b. eqb x w && b) (begins_front xs ws)

eqb_swap : (a b : ℕ) → eqb a b ≡ eqb b a
eqb_swap a b = grind (arith, nat_tests)

pub front_begins : (xs ws : List ℕ) → pointwise nat_eq ws (take (length ws) xs) ≡ begins xs ws
front_begins xs [] = refl
front_begins [] (w ∷ ws) = refl
front_begins (x ∷ xs) (w ∷ ws) = rw (front_begins xs ws, eqb_swap w x) refl

-- a test of what follows a word at the front
pub stripped : (xs ws : List ℕ) (f : List ℕ → Bool) (o : Option (Bor (List ℕ))) (r : Bool)
    → MatchOption o (pointwise nat_eq (take (length ws) xs) ws ≡ false) (λ x. (pointwise nat_eq (take (length ws) xs) ws ≡ true) × (x.now ≡ drop (length ws) xs) × (length x.now + length ws ≡ length xs))
    → MatchOption o (r ≡ false) (λ x. r ≡ f x.now) → r ≡ (begins xs ws && f (drop (length ws) xs))
stripped xs ws f None r e q = rw (begins_front, e) q
stripped xs ws f (Some x) r e q = rw (begins_front, e.0) (q ∙ ap f e.1)

-- the blank after a word
pub blank_first : (n : ℕ) (xs : List ℕ) → begins (drop n xs) (32 ∷ []) ≡ eqb (get_or xs n 0) 32
blank_first n [] = rw (drop_all {X = ℕ} n [] (omega arith)) refl
blank_first zero (x ∷ xs) = whole (eqb x 32)
  where
    whole : (b : Bool) → (b && true) ≡ b
    whole true = refl
    whole false = refl
blank_first (suc n) (x ∷ xs) = blank_first n xs

pub among_found : (text : List ℕ) (ks : List Title) → title_among text ks ≡ find (λ k. first_word_is (name_of k) text) ks
among_found text [] = refl
among_found text (k ∷ ks) = ap (cond (first_word_is (name_of k) text) (Some k)) (among_found text ks)

-- the form of the first of some words that the text is
abbrev pub spelled_form : List ℕ → List (Bor (List ℕ) × Side × MatrixKind) → Option MatrixForm
spelled_form text [] = None
spelled_form text (t ∷ ts) = cond (is_text t.0.now text) (form t.1 t.2) (spelled_form text ts)

abbrev pub formed : Bor (List ℕ) × Side × MatrixKind → MatrixForm
formed t = record { side = t.1; kind = t.2 }

mapped_form : (text : List ℕ) (ts : List (Bor (List ℕ) × Side × MatrixKind)) → option_map formed (find (λ t. is_text t.0.now text) ts) ≡ spelled_form text ts
mapped_form text [] = refl
mapped_form text (t ∷ ts) = elim (cases_Bool (is_text t.0.now text)) [ inl e ↦ rw e refl | inr e ↦ rw e (mapped_form text ts) ]

pub form_found : (text : List ℕ) {s : Iter (Bor (List ℕ) × Side × MatrixKind)} {ts : List (Bor (List ℕ) × Side × MatrixKind)} → YieldsList fronts (λ y. y.now) s ts
    → (o r : Option (Bor (Bor (List ℕ) × Side × MatrixKind))) → o ≡ r → option_map (λ y. y.now) o ≡ find (λ t. is_text t.0.now text) ts → option_map (λ y. formed y.now) r ≡ spelled_form text ts
form_found text {ts = ts} y o None e f = ap (option_map formed) (ap (option_map (λ y. y.now)) (sym e) ∙ f) ∙ mapped_form text ts
form_found text {ts = ts} y o (Some t) e f = ap (option_map formed) (ap (option_map (λ y. y.now)) (sym e) ∙ f) ∙ mapped_form text ts
