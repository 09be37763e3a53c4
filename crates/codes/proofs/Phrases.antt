-- The form of texts and descriptions, and that what is kept of them is read as it was.
use Rattle.std.proofs.Common.{◌≡◌, ℕ, zero, suc, ◌+◌, ◌-◌, ◌≤◌, Bool, true, false, ◌&&◌, eqb, leb, ◌⊎◌, List, [], ◌∷◌, ◌++◌, length, take, replicate, Ok, Err, sym, refl, ap, ◌∙◌, subst, inl, inr, ⊎_elim, arith}
use Rattle.std.proofs.lemmas.List.{append-nil, length-append, length-replicate, length-take-le, take_at}
use Rattle.std.proofs.lemmas.Bool.{cond-true, cond-false, cond_both, cases_Bool, eqb-false, ne_eqb, and_parts, leb-true, le-leb, true≢false}
use Rattle.refusals.specs.declared.Fault.TheVariants.{WrongText}
use Rattle.decimals.specs.Scan.{unblank}
use Rattle.decimals.specs.Number.{blank, is_empty}
use Rattle.decimals.proofs.Blanks.{unblank-blanks, blank-blanks, unblank-split, blank_is}
use Rattle.codes.specs.Text.{word, after_word, padded, read_text, filled, trimmed, read_description, Solid, Word, TextsHaveForm, TextsComeBack, Begun, Ended, Phrase, DescriptionsHaveForm, DescriptionsComeBack}
use Rattle.decimals.proofs.Faults.{no_fault, same_result}
use Rattle.codes.proofs.Words.{text_yes, filled_none, filled_le}

pub length-padded : (n : ℕ) (w : List ℕ) → length w ≤ n → length (padded n w) ≡ n
length-padded n w h = length-append w (replicate (n - length w) 32) ∙ omega (arith, length-replicate {A = ℕ} (n - length w) 32)

-- ---- texts

-- a word and blanks after it
word_of : (w : List ℕ) (b : ℕ) → Solid w → (word (w ++ replicate b 32) ≡ w) × (after_word (w ++ replicate b 32) ≡ replicate b 32)
word_of [] zero s = (refl, refl)
word_of [] (suc b) s = (refl, refl)
word_of (c ∷ cs) b s =
    let n : eqb c 32 ≡ false = ne_eqb c 32 s.0 in
    let r = word_of cs b s.1 in
    (cond-false _ _ _ n ∙ ap (λ x. c ∷ x) r.0, cond-false _ _ _ n ∙ r.1)

begun_front : (w t : List ℕ) → Begun w → 1 ≤ length w → unblank (w ++ t) ≡ w ++ t
begun_front [] t s h = absurd (omega arith)
begun_front (c ∷ cs) t s h = cond-false _ _ _ (ne_eqb c 32 s)

solid-begun : (w : List ℕ) → Solid w → Begun w
solid-begun [] s = tt
solid-begun (c ∷ cs) s = s.0

text_form : (a b n : ℕ) (w : List ℕ) → Word n w → read_text n (replicate a 32 ++ (w ++ replicate b 32)) ≡ Ok (padded n w)
text_form a b n w k =
    let t : List ℕ = w ++ replicate b 32 in
    let u : unblank (replicate a 32 ++ t) ≡ t = unblank-blanks a t ∙ begun_front w (replicate b 32) (solid-begun w k.solid) k.some in
    let f = word_of w b k.solid in
    let x : word (unblank (replicate a 32 ++ t)) ≡ w = ap word u ∙ f.0 in
    let y : after_word (unblank (replicate a 32 ++ t)) ≡ replicate b 32 = ap after_word u ∙ f.1 in
    let l = ap length x in
    text_yes n (replicate a 32 ++ t) (omega (arith, k.some)) (omega (arith, k.fits)) (ap blank y ∙ blank-blanks b) ∙ ap (λ v. Ok (padded n v)) x

word-solid : (t : List ℕ) → Solid (word t)
word-solid [] = tt
word-solid (c ∷ cs) = cond_both (eqb c 32) [] (c ∷ word cs) Solid (λ _. tt) (λ f. (eqb-false c 32 f, word-solid cs))

word-joined : (t : List ℕ) → word t ++ after_word t ≡ t
word-joined [] = refl
word-joined (c ∷ cs) =
    ⊎_elim
    (λ y. ap (λ x. x ++ after_word (c ∷ cs)) (cond-true (eqb c 32) [] (c ∷ word cs) y) ∙ cond-true (eqb c 32) (c ∷ cs) (after_word cs) y)
    (λ f. ap (λ x. x ++ after_word (c ∷ cs)) (cond-false (eqb c 32) [] (c ∷ word cs) f) ∙ (ap (λ x. c ∷ (word cs ++ x)) (cond-false (eqb c 32) (c ∷ cs) (after_word cs) f) ∙ ap (λ x. c ∷ x) (word-joined cs)))
    (cases_Bool (eqb c 32))

text_parts : (n : ℕ) (bs t : List ℕ) → read_text n bs ≡ Ok t → (w : List ℕ) × Word n w × (t ≡ padded n w) × ((a : ℕ) × (b : ℕ) × (bs ≡ replicate a 32 ++ (w ++ replicate b 32)))
text_parts n bs t e =
    let u = unblank bs in
    let w = word u in
    let test : Bool = leb 1 (length w) && (leb (length w) n && blank (after_word u)) in
    ⊎_elim
    (λ y.
    let p = and_parts (leb 1 (length w)) (leb (length w) n && blank (after_word u)) y in
    let q = and_parts (leb (length w) n) (blank (after_word u)) p.1 in
    let f = unblank-split bs in
    let b = blank_is (after_word u) q.1 in (
      w,
      record { solid = word-solid u; some = leb-true 1 (length w) p.0; fits = leb-true (length w) n q.0 },
      sym (same_result (padded n w) t (sym (cond-true test (Ok (padded n w)) (Err WrongText) y) ∙ e)),
      (f.0, b.0, f.1 ∙ ap (λ x. replicate f.0 32 ++ x) (sym (word-joined u) ∙ ap (λ x. w ++ x) b.1)),
    ))
    (λ f. absurd (no_fault WrongText t (sym (cond-false test (Ok (padded n w)) (Err WrongText) f) ∙ e)))
    (cases_Bool test)

pub texts_have_form : TextsHaveForm
texts_have_form = (text_form, text_parts)

pub texts_come_back : TextsComeBack
texts_come_back n bs t e =
    let k = text_parts n bs t e in
    let w = k.0 in (
      ap length k.2 ∙ length-padded n w k.1.fits,
      subst (λ x. read_text n x ≡ Ok x) (sym k.2) (text_form 0 (n - length w) n w k.1),
    )

-- ---- descriptions

-- with a byte at its end that is not blank, a text is not blank
not_blank : (c : ℕ) (cs r : List ℕ) → Ended (c ∷ cs) → blank ((c ∷ cs) ++ r) ≡ false
not_blank c [] r s = ap is_empty (cond-false (eqb c 32) (unblank r) (c ∷ r) (ne_eqb c 32 s))
not_blank c (d ∷ ds) r s =
    ⊎_elim
    (λ y. ap is_empty (cond-true (eqb c 32) (unblank ((d ∷ ds) ++ r)) (c ∷ ((d ∷ ds) ++ r)) y) ∙ not_blank d ds r s)
    (λ f. ap is_empty (cond-false (eqb c 32) (unblank ((d ∷ ds) ++ r)) (c ∷ ((d ∷ ds) ++ r)) f))
    (cases_Bool (eqb c 32))

rest_ended : (c : ℕ) (cs : List ℕ) → Ended (c ∷ cs) → Ended cs
rest_ended c [] s = tt
rest_ended c (d ∷ ds) s = s

filled_of : (w : List ℕ) (b : ℕ) → Ended w → filled (w ++ replicate b 32) ≡ length w
filled_of [] b s = filled_none (replicate b 32) (blank-blanks b)
filled_of (c ∷ cs) b s = cond-false _ _ _ (not_blank c cs (replicate b 32) s) ∙ ap (λ n. 1 + n) (filled_of cs b (rest_ended c cs s)) ∙ omega arith

-- what is left of blanks, a phrase and blanks
phrase_front : (a b : ℕ) (w : List ℕ) → Begun w → (unblank (replicate a 32 ++ (w ++ replicate b 32)) ≡ w ++ replicate b 32) ⊎ ((w ≡ []) × (unblank (replicate a 32 ++ (w ++ replicate b 32)) ≡ []))
phrase_front a b [] s = inr (refl, unblank-blanks a (replicate b 32) ∙ (ap unblank (sym (append-nil (replicate b 32))) ∙ unblank-blanks b []))
phrase_front a b (c ∷ cs) s = inl (unblank-blanks a ((c ∷ cs) ++ replicate b 32) ∙ begun_front (c ∷ cs) (replicate b 32) s (omega arith))

description_yes : (n : ℕ) (bs w : List ℕ) → filled (unblank bs) ≡ length w → trimmed bs ≡ w → length w ≤ n → read_description n bs ≡ Ok (padded n w)
description_yes n bs w l e h = cond-true _ _ _ (le-leb (filled (unblank bs)) n (omega arith)) ∙ ap (λ x. Ok (padded n x)) e

description-form : (a b n : ℕ) (w : List ℕ) → Phrase n w → read_description n (replicate a 32 ++ (w ++ replicate b 32)) ≡ Ok (padded n w)
description-form a b n w k =
    let bs : List ℕ = replicate a 32 ++ (w ++ replicate b 32) in
    ⊎_elim
    (λ u.
    let l : filled (unblank bs) ≡ length w = ap filled u ∙ filled_of w b k.ended in
    description_yes n bs w l (ap (λ x. take (filled (unblank bs)) x) u ∙ (ap (λ x. take x (w ++ replicate b 32)) l ∙ take_at w (replicate b 32) (length w) refl)) k.fits)
    (λ z. description_yes n bs w (ap filled z.1 ∙ ap length (sym z.0)) (ap (λ x. take (filled x) x) z.1 ∙ sym z.0) k.fits)
    (phrase_front a b w k.begun)

unblank-begun : (t : List ℕ) → Begun (unblank t)
unblank-begun [] = tt
unblank-begun (c ∷ cs) = cond_both (eqb c 32) (unblank cs) (c ∷ cs) Begun (λ _. unblank-begun cs) (λ f. eqb-false c 32 f)

take-begun : (k : ℕ) (t : List ℕ) → Begun t → Begun (take k t)
take-begun zero t s = tt
take-begun (suc k) [] s = tt
take-begun (suc k) (c ∷ cs) s = s

-- a text up to its last byte that is not blank, and blanks
pub record Fill (t : List ℕ) : Type 0 where
  pub after : ℕ
  pub ended : Ended (take (filled t) t)
  pub is : t ≡ take (filled t) t ++ replicate after 32

ended_more : (c : ℕ) (w : List ℕ) → Ended w → (w ≡ [] → c ≡ 32 → ⊥) → Ended (c ∷ w)
ended_more c [] s h = h refl
ended_more c (d ∷ ds) s h = s

fill : (t : List ℕ) → Fill t
fill [] = record { after = 0; ended = tt; is = refl }
fill (c ∷ cs) =
    ⊎_elim
    (λ y.
    let b = blank_is (c ∷ cs) y in
    let z : filled (c ∷ cs) ≡ 0 = cond-true _ _ _ y in
    record { after = b.0; ended = subst (λ k. Ended (take k (c ∷ cs))) (sym z) tt; is = b.1 ∙ ap (λ k. take k (c ∷ cs) ++ replicate b.0 32) (sym z) })
    (λ f.
    let r = fill cs in
    let w : List ℕ = take (filled cs) cs in
    let z : filled (c ∷ cs) ≡ suc (filled cs) = cond-false _ _ _ f ∙ omega arith in
    let h : w ≡ [] → c ≡ 32 → ⊥ = λ e g.
    let x : blank (c ∷ cs) ≡ blank cs = ap (λ k. blank (k ∷ cs)) g in
    let y : blank cs ≡ true = ap blank (r.is ∙ ap (λ k. k ++ replicate r.after 32) e) ∙ blank-blanks r.after in
    true≢false (sym (x ∙ y) ∙ f) in
    record {
      after = r.after;
      ended = subst (λ k. Ended (take k (c ∷ cs))) (sym z) (ended_more c w r.ended h);
      is = ap (λ x. c ∷ x) r.is ∙ ap (λ k. take k (c ∷ cs) ++ replicate r.after 32) (sym z);
    })
    (cases_Bool (blank (c ∷ cs)))

description-parts : (n : ℕ) (bs t : List ℕ) → read_description n bs ≡ Ok t → (w : List ℕ) × Phrase n w × (t ≡ padded n w) × ((a : ℕ) × (b : ℕ) × (bs ≡ replicate a 32 ++ (w ++ replicate b 32)))
description-parts n bs t e =
    let u = unblank bs in
    let w = trimmed bs in
    ⊎_elim
    (λ y.
    let l = leb-true (filled u) n y in
    let f = unblank-split bs in
    let r = fill u in (
      w,
      record { begun = take-begun (filled u) u (unblank-begun bs); ended = r.ended; fits = omega (arith, l, length-take-le (filled u) u (filled_le u)) },
      sym (same_result (padded n w) t (sym (cond-true (leb (filled u) n) (Ok (padded n w)) (Err WrongText) y) ∙ e)),
      (f.0, r.after, f.1 ∙ ap (λ x. replicate f.0 32 ++ x) r.is),
    ))
    (λ f. absurd (no_fault WrongText t (sym (cond-false (leb (filled u) n) (Ok (padded n w)) (Err WrongText) f) ∙ e)))
    (cases_Bool (leb (filled u) n))

pub descriptions_have_form : DescriptionsHaveForm
descriptions_have_form = (description-form, description-parts)

pub descriptions_come_back : DescriptionsComeBack
descriptions_come_back n bs t e =
    let k = description-parts n bs t e in
    let w = k.0 in (
      ap length k.2 ∙ length-padded n w k.1.fits,
      subst (λ x. read_description n x ≡ Ok x) (sym k.2) (description-form 0 (n - length w) n w k.1),
    )
