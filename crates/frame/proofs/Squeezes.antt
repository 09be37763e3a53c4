-- Words one blank apart.
use Rattle.std.proofs.Common.{◌≡◌, ℕ, ◌+◌, ◌<◌, ◌≤◌, Bool, true, false, cond, List, [], ◌∷◌, ◌++◌, length, get_or, drop, set, replicate, sym, refl, ap, ◌∙◌, arith}
use Rattle.frame.proofs.Pads.{set-padded}
use Rattle.frame.specs.Headings.{headed, spelled, squeeze}
use Rattle.frame.specs.declared.heading.Heading.{Heading}
use Rattle.frame.specs.Lines.{padded}
use Rattle.std.proofs.lemmas.List.{at_drop_more, at_drop_all, append_assoc, append-nil, length_push, length-append}
use Rattle.std.proofs.lemmas.Bool.{cond-true, cond-false, ne_eqb, eq-eqb}

-- one byte more
pub headed_more : (h : Heading) (b : ℕ) (xs : List ℕ) → h.len < 79 → h ≡ headed xs
    → record { text = set h.text h.len b; len = h.len + 1 } ≡ headed (xs ++ b ∷ [])
headed_more h b xs l e =
    let n : h.len ≡ length xs = ap (λ (k : Heading). k.len) e in
    let t : set h.text h.len b ≡ padded 32 79 (xs ++ b ∷ []) = ap (λ (k : Heading). set k.text k.len b) e ∙ set-padded 32 79 xs b (omega arith) in
    let m : h.len + 1 ≡ length (xs ++ b ∷ []) = omega (arith, length_push xs b) in
    λ i. record { text = t i; len = m i }

-- what the walk over the columns keeps
pub record Squeezing (src : List ℕ) (i : ℕ) (gap : Bool) (h : Heading) : Type 0 where
  pub sofar : List ℕ
  pub text : h ≡ headed sofar
  pub rest : sofar ++ squeeze gap (drop i src) ≡ squeeze false src
  pub short : length sofar + cond gap 1 0 ≤ i

pub squeezing_none : (src : List ℕ) → Squeezing src 0 false (record { text = replicate 79 32; len = 0 })
squeezing_none src = record { sofar = []; text = refl; rest = refl; short = omega arith }

pub squeezing_gap : (src : List ℕ) (i : ℕ) (gap : Bool) (h : Heading) → i < length src → get_or src i 0 ≡ 32 → Squeezing src i gap h → Squeezing src (i + 1) true h
squeezing_gap src i gap h l e k = record {
  sofar = k.sofar;
  text = k.text;
  rest =
      let step : squeeze gap (drop i src) ≡ squeeze true (drop (i + 1) src) = at_drop_more (squeeze gap) src i 0 l ∙ cond-true _ _ _ (eq-eqb _ 32 e) in
      ap (λ (t : List ℕ). k.sofar ++ t) (sym step) ∙ k.rest;
  short = let s = k.short in omega (arith);
}

pub squeezing_more : (src : List ℕ) (i : ℕ) (gap : Bool) (h g : Heading) (b : ℕ) → i < length src → get_or src i 0 ≡ b → (b ≡ 32 → ⊥)
    → ((xs : List ℕ) → h ≡ headed xs → g ≡ headed (xs ++ spelled gap b)) → Squeezing src i gap h → Squeezing src (i + 1) false g
squeezing_more src i gap h g b l e n more k = record {
  sofar = k.sofar ++ spelled gap b;
  text = more k.sofar k.text;
  rest =
      let step : squeeze gap (drop i src) ≡ spelled gap (get_or src i 0) ++ squeeze false (drop (i + 1) src)
      = at_drop_more (squeeze gap) src i 0 l ∙ cond-false _ _ _ (ne_eqb _ 32 (λ z. n (sym e ∙ z))) in
      append_assoc k.sofar (spelled gap b) _
      ∙ (ap (λ (t : List ℕ). k.sofar ++ t) (ap (λ (c : ℕ). spelled gap c ++ squeeze false (drop (i + 1) src)) (sym e) ∙ sym step) ∙ k.rest);
  short = let s = k.short in let a = length-append k.sofar (spelled gap b) in let w = width gap b in omega arith;
}
  where
    width : (gap : Bool) (b : ℕ) → length (spelled gap b) ≡ 1 + cond gap 1 0
    width true b = refl
    width false b = refl

pub squeezing_all : (src : List ℕ) (i : ℕ) (gap : Bool) (h : Heading) → length src ≤ i → Squeezing src i gap h → h ≡ headed (squeeze false src)
squeezing_all src i gap h l k =
    let none : squeeze gap (drop i src) ≡ [] = at_drop_all (squeeze gap) src i l in
    k.text ∙ ap headed (sym (append-nil k.sofar) ∙ (ap (λ (t : List ℕ). k.sofar ++ t) (sym none) ∙ k.rest))

-- there is space for one byte more, and for a gap before it
pub squeezing_space : (src : List ℕ) (i : ℕ) (gap : Bool) (h : Heading) (b : ℕ) → i < length src → length src ≡ 79 → Squeezing src i gap h → h.len + length (spelled gap b) ≤ 79
squeezing_space src i true h b l n k = let e : h.len ≡ length k.sofar = ap (λ (g : Heading). g.len) k.text in let s = k.short in omega arith
squeezing_space src i false h b l n k = let e : h.len ≡ length k.sofar = ap (λ (g : Heading). g.len) k.text in let s = k.short in omega arith
