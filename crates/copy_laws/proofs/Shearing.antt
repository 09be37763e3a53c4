-- Columns without the blanks at their end. Assumes nothing.
use Rattle.std.proofs.Common.{◌≡◌, ℕ, zero, suc, ◌+◌, ◌-◌, ◌<◌, ◌≤◌, true, false, eqb, List, [], ◌∷◌, ◌++◌, length, get_or, take, drop, replicate, sym, refl, ap, ◌∙◌, subst, ⊎_elim, arith}
use Rattle.codes.proofs.Words.{filled_le, filled_none}
use Rattle.codes.specs.Text.{Ended, filled, padded}
use Rattle.copies.specs.Copy.{shorn}
use Rattle.decimals.proofs.Blanks.{blank-blanks, blank_is}
use Rattle.decimals.specs.Number.{blank, is_empty}
use Rattle.decimals.specs.Scan.{unblank}
use Rattle.std.proofs.lemmas.List.{append_assoc, get_or-drop, length-append, length-drop, length-replicate, length-take-le, take-append-drop, take_at}
use Rattle.std.proofs.lemmas.Bool.{cases_Bool, cond-false, cond-true, ne_eqb, true≢false}

-- ---- any columns

shorn-none : (bs : List ℕ) → blank bs ≡ true → shorn bs ≡ []
shorn-none bs e = ap (λ n. take n bs) (filled_none bs e)

shorn_more : (c : ℕ) (cs : List ℕ) → blank (c ∷ cs) ≡ false → shorn (c ∷ cs) ≡ c ∷ shorn cs
shorn_more c cs e =
    let f : filled (c ∷ cs) ≡ suc (filled cs) = cond-false _ _ _ e ∙ omega arith in
    ap (λ n. take n (c ∷ cs)) f

pub length-shorn : (bs : List ℕ) → length (shorn bs) ≤ length bs
length-shorn bs = omega (arith, length-take-le (filled bs) bs (filled_le bs), filled_le bs)

-- blanks alone are as many as there are bytes
all_blank_lem : (bs : List ℕ) → blank bs ≡ true → replicate (length bs) 32 ≡ bs
all_blank_lem bs e =
    let (n, is) = blank_is bs e in
    let l : length bs ≡ n = ap length is ∙ length-replicate n 32 in
    ap (λ k. replicate k 32) l ∙ sym is

padded-none : (n : ℕ) → padded n [] ≡ replicate n 32
padded-none n = let e : n - 0 ≡ n = omega arith in ap (λ k. replicate k 32) e

padded_more : (n c : ℕ) (w : List ℕ) → padded (suc n) (c ∷ w) ≡ c ∷ padded n w
padded_more n c w = let e : suc n - suc (length w) ≡ n - length w = omega arith in ap (λ k. c ∷ (w ++ replicate k 32)) e

-- with as many blanks as were cut off, the columns are back
pub shorn-back : (bs : List ℕ) → padded (length bs) (shorn bs) ≡ bs
shorn-back [] = refl
shorn-back (c ∷ cs) =
    ⊎_elim
    (λ y. ap (padded (length (c ∷ cs))) (shorn-none (c ∷ cs) y) ∙ (padded-none (length (c ∷ cs)) ∙ all_blank_lem (c ∷ cs) y))
    (λ n. ap (padded (length (c ∷ cs))) (shorn_more c cs n) ∙ (padded_more (length cs) c (shorn cs) ∙ ap (λ (t : List ℕ). c ∷ t) (shorn-back cs)))
    (cases_Bool (blank (c ∷ cs)))

pub shorn-padded : (n : ℕ) (bs : List ℕ) → length bs ≡ n → padded n (shorn bs) ≡ bs
shorn-padded n bs e = subst (λ k. padded k (shorn bs) ≡ bs) e (shorn-back bs)

-- a blank in front of blanks
more_blank : (c : ℕ) (cs : List ℕ) → c ≡ 32 → shorn cs ≡ [] → blank (c ∷ cs) ≡ true
more_blank c cs e s =
    let b : cs ≡ replicate (length cs) 32 = sym (shorn-back cs) ∙ (ap (padded (length cs)) s ∙ padded-none (length cs)) in
    ap (λ k. blank (k ∷ cs)) e ∙ (ap blank b ∙ blank-blanks (length cs))

ended_more : (c : ℕ) (w : List ℕ) → Ended w → (w ≡ [] → c ≡ 32 → ⊥) → Ended (c ∷ w)
ended_more c [] s h = h refl
ended_more c (d ∷ ds) s h = s

pub shorn-ended : (bs : List ℕ) → Ended (shorn bs)
shorn-ended [] = tt
shorn-ended (c ∷ cs) =
    ⊎_elim
    (λ y. subst Ended (sym (shorn-none (c ∷ cs) y)) tt)
    (λ n. subst Ended (sym (shorn_more c cs n)) (ended_more c (shorn cs) (shorn-ended cs) (λ s e. true≢false (sym (more_blank c cs e s) ∙ n))))
    (cases_Bool (blank (c ∷ cs)))

-- ---- a text and blanks

-- with a byte at its end that is not blank, a text is not blank
not_blank : (c : ℕ) (cs r : List ℕ) → Ended (c ∷ cs) → blank ((c ∷ cs) ++ r) ≡ false
not_blank c [] r s = ap is_empty (cond-false (eqb c 32) (unblank r) (c ∷ r) (ne_eqb c 32 s))
not_blank c (d ∷ ds) r s =
    ⊎_elim
    (λ y. ap is_empty (cond-true (eqb c 32) (unblank ((d ∷ ds) ++ r)) (c ∷ ((d ∷ ds) ++ r)) y) ∙ not_blank d ds r s)
    (λ f. ap is_empty (cond-false (eqb c 32) (unblank ((d ∷ ds) ++ r)) (c ∷ ((d ∷ ds) ++ r)) f))
    (cases_Bool (eqb c 32))

rest_ended : (c : ℕ) (cs : List ℕ) → Ended (c ∷ cs) → Ended cs
rest_ended c [] s = tt
rest_ended c (d ∷ ds) s = s

pub shorn_of : (w : List ℕ) (k : ℕ) → Ended w → shorn (w ++ replicate k 32) ≡ w
shorn_of [] k s = shorn-none (replicate k 32) (blank-blanks k)
shorn_of (c ∷ cs) k s = shorn_more c (cs ++ replicate k 32) (not_blank c cs (replicate k 32) s) ∙ ap (λ (t : List ℕ). c ∷ t) (shorn_of cs k (rest_ended c cs s))

-- ---- columns of which some at the front are filled

-- a text that has bytes, and whose last is not blank
pub record Closed (w : List ℕ) : Type 0 where
  pub ended : Ended w
  pub some : 1 ≤ length w

pub closed_after : (p w : List ℕ) → Closed w → Closed (p ++ w)
closed_after [] w c = c
closed_after (b ∷ []) [] c = absurd (let h = c.some in omega arith)
closed_after (b ∷ []) (d ∷ ds) c = record { ended = c.ended; some = omega arith }
closed_after (b ∷ (e ∷ p)) w c = record { ended = (closed_after (e ∷ p) w c).ended; some = omega arith }

-- such a text, and k blanks
pub record Shears (k : ℕ) (t : List ℕ) : Type 0 where
  pub text : List ℕ
  pub closed : Closed text
  pub is : t ≡ text ++ replicate k 32

pub shears_after : (k : ℕ) (p t : List ℕ) → Shears k t → Shears k (p ++ t)
shears_after k p t s = record {
  text = p ++ s.text;
  closed = closed_after p s.text s.closed;
  is = ap (λ x. p ++ x) s.is ∙ sym (append_assoc p s.text (replicate k 32));
}

-- cut at its last byte that is not blank
pub shears_take : (n k : ℕ) (t : List ℕ) → Shears k t → length t ≡ n + k → (shorn t ≡ take n t) × (length (shorn t) ≡ n)
shears_take n k t s l =
    let w : List ℕ = s.text in
    let e : shorn t ≡ w = ap shorn s.is ∙ shorn_of w k s.closed.ended in
    let m : length t ≡ length w + k = ap length s.is ∙ (length-append w (replicate k 32) ∙ ap (λ x. length w + x) (length-replicate k 32)) in
    let h : length w ≡ n = omega arith in
    (e ∙ sym (ap (take n) s.is ∙ take_at w (replicate k 32) n h), ap length e ∙ h)

-- the same by bytes: the last of the first w bytes is not blank, and those after them are
ended_at : (w : ℕ) (bs : List ℕ) → w < length bs → (get_or bs w 0 ≡ 32 → ⊥) → Ended (take (suc w) bs)
ended_at w [] l h = absurd (omega arith)
ended_at zero (c ∷ cs) l h = h
ended_at (suc w) (c ∷ []) l h = absurd (omega arith)
ended_at (suc w) (c ∷ (d ∷ ds)) l h = let r : w < length (d ∷ ds) = omega arith in ended_at w (d ∷ ds) r h

blanks_at : (bs : List ℕ) → ((i : ℕ) → i < length bs → get_or bs i 0 ≡ 32) → bs ≡ replicate (length bs) 32
blanks_at [] h = refl
blanks_at (c ∷ cs) h =
    let r : (i : ℕ) → i < length cs → get_or cs i 0 ≡ 32 = λ i l. h (suc i) (omega arith) in
    ap (λ k. k ∷ cs) (h 0 (omega arith)) ∙ ap (λ (t : List ℕ). 32 ∷ t) (blanks_at cs r)

pub shorn-at : (w : ℕ) (bs : List ℕ) → (get_or bs (w - 1) 0 ≡ 32 → ⊥) → ((i : ℕ) → w ≤ i → i < length bs → get_or bs i 0 ≡ 32) → w ≤ length bs → shorn bs ≡ take w bs
shorn-at zero bs h b l = ap shorn (blanks_at bs (λ i j. b i (omega arith) j)) ∙ shorn_of [] (length bs) tt
shorn-at (suc w) bs h b l =
    let r : List ℕ = drop (suc w) bs in
    let n : length r ≡ length bs - suc w = length-drop (suc w) bs in
    let k : r ≡ replicate (length r) 32 = blanks_at r (λ i j. get_or-drop (suc w) bs i 0 ∙ b (suc w + i) (omega arith) (omega arith)) in
    let is : bs ≡ take (suc w) bs ++ replicate (length r) 32 = sym (take-append-drop (suc w) bs) ∙ ap (λ x. take (suc w) bs ++ x) k in
    let m : suc w - 1 ≡ w = omega arith in
    ap shorn is ∙ shorn_of (take (suc w) bs) (length r) (ended_at w bs l (subst (λ x. get_or bs x 0 ≡ 32 → ⊥) m h))
