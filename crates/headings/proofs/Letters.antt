-- The six places of the contents letters, read two columns after two and written place after place.
use Rattle.std.proofs.Common.{◌≡◌, ℕ, zero, suc, ◌+◌, ◌-◌, ◌*◌, ◌<◌, List, [], ◌∷◌, ◌++◌, length, take, set, None, Option, Result, refl, arith, get_or}
use Rattle.refusals.specs.declared.Fault.{Fault}
use Rattle.codes.specs.Codes.{place_letter}
use Rattle.codes.specs.Text.{check_blank}
use Rattle.codes.specs.declared.letters.Contents.{Contents}
use Rattle.fields.specs.Angle.{columns}
use Rattle.headings.specs.Copies.{blanks, letter_text}
use Rattle.headings.specs.Headers.{check_letter, check_letters}
use Rattle.headings.specs.Lines.{and_then}

-- the places of columns, two after two, and then what follows them
abbrev pub check_places : Result (Unit {0}) Fault → List ℕ → Result (Unit {0}) Fault
check_places r [] = r
check_places r (c ∷ []) = r
check_places r (c ∷ (d ∷ cs)) = and_then (check_letter (c ∷ (d ∷ []))) (λ _. check_places r cs)

pub places_more : (r : Result (Unit {0}) Fault) (xs ys : List ℕ) → length xs ≡ 2 → check_places r (xs ++ ys) ≡ and_then (check_letter xs) (λ _. check_places r ys)
places_more r [] ys h = absurd (omega arith)
places_more r (c ∷ []) ys h = absurd (omega arith)
places_more r (c ∷ (d ∷ [])) ys h = refl
places_more r (c ∷ (d ∷ (e ∷ cs))) ys h = absurd (omega arith)

pub places_none : (r : Result (Unit {0}) Fault) (bs : List ℕ) → length bs < 2 → check_places r bs ≡ r
places_none r [] h = refl
places_none r (c ∷ []) h = refl
places_none r (c ∷ (d ∷ cs)) h = absurd (omega arith)

-- two bytes and what follows them
two_of : (P : List ℕ → Type 0) (n : ℕ) → ((c d : ℕ) (cs : List ℕ) → length cs ≡ n → P (c ∷ (d ∷ cs))) → (bs : List ℕ) → length bs ≡ n + 2 → P bs
two_of P n f [] h = absurd (omega arith)
two_of P n f (c ∷ []) h = absurd (omega arith)
two_of P n f (c ∷ (d ∷ cs)) h = f c d cs (omega arith)

abbrev ByPlaces : List ℕ → Type 0
ByPlaces bs = check_places (check_blank (columns 12 13 bs)) (take 12 bs) ≡ check_letters bs

pub letters_by_places : (bs : List ℕ) → length bs ≡ 13 → ByPlaces bs
letters_by_places =
    two_of ByPlaces 11 (λ c d. two_of (λ t. ByPlaces (c ∷ (d ∷ t))) 9 (λ e f. two_of (λ t. ByPlaces (c ∷ (d ∷ (e ∷ (f ∷ t))))) 7 (λ g h.
    two_of (λ t. ByPlaces (c ∷ (d ∷ (e ∷ (f ∷ (g ∷ (h ∷ t))))))) 5 (λ i j. two_of (λ t. ByPlaces (c ∷ (d ∷ (e ∷ (f ∷ (g ∷ (h ∷ (i ∷ (j ∷ t))))))))) 3 (λ k l.
    two_of (λ t. ByPlaces (c ∷ (d ∷ (e ∷ (f ∷ (g ∷ (h ∷ (i ∷ (j ∷ (k ∷ (l ∷ t))))))))))) 1 (λ m n bs z. refl))))))

-- the first n letters
abbrev pub letters_front : ℕ → List (Option Contents) → List ℕ
letters_front zero l = []
letters_front (suc n) l = letters_front n l ++ letter_text n l

pub letters_more : (l : List (Option Contents)) (i : ℕ) → i < 6 → set (letters_front i l ++ blanks (13 - 2 * i)) (2 * i + 1) (place_letter (get_or l i None)) ≡ letters_front (i + 1) l ++ blanks (13 - 2 * (i + 1))
letters_more l zero h = refl
letters_more l (suc zero) h = refl
letters_more l (suc (suc zero)) h = refl
letters_more l (suc (suc (suc zero))) h = refl
letters_more l (suc (suc (suc (suc zero)))) h = refl
letters_more l (suc (suc (suc (suc (suc zero))))) h = refl
letters_more l (suc (suc (suc (suc (suc (suc n)))))) h = absurd (omega arith)
