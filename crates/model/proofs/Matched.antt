-- Lists whose keys rise and that are equal in any order are equal.
use Rattle.std.specs.Cmp.{IsTotalOrder}
use Rattle.std.proofs.Common.{◌≡◌, ℕ, zero, suc, ◌<◌, List, [], ◌∷◌, length, get_or, Ordering, Less, Greater, sym, refl, ap, ◌∙◌, subst, ap₂, inl, inr, ⊎_elim, arith}
use Rattle.model.specs.Pairings.{Pairing}
use Rattle.std.specs.Ordering.{ordering_reverse}
use Rattle.tables.specs.Keys.{Rising}
use Rattle.tables.specs.Laws.{Among}

among_at : {R : Type 0} (d : R) (xs : List R) (i : ℕ) → i < length xs → Among (get_or xs i d) xs
among_at d [] i h = absurd (omega arith)
among_at d (x ∷ xs) zero h = inl refl
among_at d (x ∷ xs) (suc i) h = inr (among_at d xs i (omega arith))

at_among : {R : Type 0} (d : R) (xs : List R) (e : R) → Among e xs → (i : ℕ) × (i < length xs) × (get_or xs i d ≡ e)
at_among d [] e m = absurd m
at_among d (x ∷ xs) e m = ⊎_elim (λ (p : e ≡ x). (0, omega arith, sym p)) (λ n. let t = at_among d xs e n in (suc t.0, omega (arith, t.1), t.2)) m

-- ---- pairings

abbrev pub pairing_refl : {R : Type 0} (xs : List R) → Pairing xs xs
pairing_refl xs = record {
  to = λ i. i;
  back = λ i. i;
  into = λ i h. h;
  onto = λ j h. h;
  back_to = λ i h. refl;
  to_back = λ j h. refl;
  keeps = λ d i h. refl;
}

abbrev pub pairing_sym : {R : Type 0} (xs ys : List R) → Pairing xs ys → Pairing ys xs
pairing_sym xs ys p = record {
  to = p.back;
  back = p.to;
  into = p.onto;
  onto = p.into;
  back_to = p.to_back;
  to_back = p.back_to;
  keeps = λ d j h. sym (p.keeps d (p.back j) (p.onto j h)) ∙ ap (λ (k : ℕ). get_or ys k d) (p.to_back j h);
}

abbrev pub pairing_trans : {R : Type 0} (xs ys zs : List R) → Pairing xs ys → Pairing ys zs → Pairing xs zs
pairing_trans xs ys zs p q = record {
  to = λ i. q.to (p.to i);
  back = λ i. p.back (q.back i);
  into = λ i h. q.into (p.to i) (p.into i h);
  onto = λ j h. p.onto (q.back j) (q.onto j h);
  back_to = λ i h. ap p.back (q.back_to (p.to i) (p.into i h)) ∙ p.back_to i h;
  to_back = λ j h. ap q.to (p.to_back (q.back j) (q.onto j h)) ∙ q.to_back j h;
  keeps = λ d i h. q.keeps d (p.to i) (p.into i h) ∙ p.keeps d i h;
}

-- a pairing pairs what is among the lists
paired_among : {R : Type 0} (xs ys : List R) → Pairing xs ys → (e : R) → Among e xs → Among e ys
paired_among xs ys p e m =
    let t = at_among e xs e m in
    subst (λ x. Among x ys) (p.keeps e t.0 t.1 ∙ t.2) (among_at e ys (p.to t.0) (p.into t.0 t.1))

-- ---- lists that rise

module _ {R : Type 0} (cmp : R → R → Ordering) (order : IsTotalOrder cmp) where
  never_before : (x : R) → cmp x x ≡ Less → ⊥
  never_before x e = let f = order.antisymm x x in let g : cmp x x ≡ Greater = f ∙ ap ordering_reverse e in let z : ◌≡◌ {A = ℕ} 0 1 = cc in omega arith

  -- the first stands before all that follow
  pub first-before : (x : R) (xs : List R) → Rising cmp (x ∷ xs) → (e : R) → Among e xs → cmp x e ≡ Less
  first-before x [] r e m = absurd m
  first-before x (y ∷ ys) r e m =
      ⊎_elim (λ (p : e ≡ y). ap (cmp x) p ∙ r.0) (λ n. order.trans x y e r.0 (first-before y ys r.1 e n)) m

  rest_among : (x : R) (xs ys : List R) → Rising cmp (x ∷ xs) → ((e : R) → Among e (x ∷ xs) → Among e (x ∷ ys)) → (e : R) → Among e xs → Among e ys
  rest_among x xs ys r f e m =
      let l = first-before x xs r e m in
      ⊎_elim (λ (p : e ≡ x). absurd (never_before x (ap (cmp x) (sym p) ∙ l))) (λ n. n) (f e (inr m))

  heads_equal : (x y : R) (xs ys : List R) → Rising cmp (x ∷ xs) → Rising cmp (y ∷ ys) → Among x (y ∷ ys) → Among y (x ∷ xs) → x ≡ y
  heads_equal x y xs ys r s m n =
      ⊎_elim (λ p. p) (λ (m' : Among x ys). ⊎_elim sym (λ (n' : Among y xs). absurd (never_before x (order.trans x y x (first-before x xs r y n') (first-before y ys s x m')))) n) m

  rising_same : (xs ys : List R) → Rising cmp xs → Rising cmp ys → ((e : R) → Among e xs → Among e ys) → ((e : R) → Among e ys → Among e xs) → xs ≡ ys
  rising_same [] [] r s f g = refl
  rising_same [] (y ∷ ys) r s f g = absurd (g y (inl refl))
  rising_same (x ∷ xs) [] r s f g = absurd (f x (inl refl))
  rising_same (x ∷ xs) (y ∷ ys) r s f g =
      let p : x ≡ y = heads_equal x y xs ys r s (f x (inl refl)) (g y (inl refl)) in
      let f' : (e : R) → Among e (x ∷ xs) → Among e (x ∷ ys) = λ e m. subst (λ z. Among e (z ∷ ys)) (sym p) (f e m) in
      let g' : (e : R) → Among e (x ∷ ys) → Among e (x ∷ xs) = λ e m. g e (subst (λ z. Among e (z ∷ ys)) p m) in
      let s' : Rising cmp (x ∷ ys) = subst (λ z. Rising cmp (z ∷ ys)) (sym p) s in
      ap₂ ◌∷◌ p (rising_same xs ys r.1 s.1 (rest_among x xs ys r f') (rest_among x ys xs s' g'))

  pub paired_equal : (xs ys : List R) → Rising cmp xs → Rising cmp ys → Pairing xs ys → xs ≡ ys
  paired_equal xs ys r s p = rising_same xs ys r s (paired_among xs ys p) (paired_among ys xs (pairing_sym xs ys p))

  -- in a list that rises, what stands at two places is never equal
  rising_apart : (d : R) (xs : List R) (i j : ℕ) → Rising cmp xs → i < length xs → j < length xs → get_or xs i d ≡ get_or xs j d → i ≡ j
  rising_apart d [] i j r h k e = absurd (omega arith)
  rising_apart d (x ∷ xs) zero zero r h k e = refl
  rising_apart d (x ∷ xs) zero (suc j) r h k e = absurd (never_before x (first-before x xs r x (subst (λ z. Among z xs) (sym e) (among_at d xs j (omega arith)))))
  rising_apart d (x ∷ xs) (suc i) zero r h k e = absurd (never_before x (first-before x xs r x (subst (λ z. Among z xs) e (among_at d xs i (omega arith)))))
  rising_apart d (x ∷ xs) (suc i) (suc j) r h k e = ap suc (rising_apart d xs i j r.1 (omega arith) (omega arith) e)

  -- a pairing of equal lists that rise pairs equal places
  pub paired_places : (xs ys : List R) → Rising cmp xs → xs ≡ ys → (p : Pairing xs ys) → (i : ℕ) → i < length xs → p.to i ≡ i
  paired_places xs ys r e p i h =
      let d = get_or xs i (first_of xs i h) in
      let l : p.to i < length xs = subst (λ (zs : List R). p.to i < length zs) (sym e) (p.into i h) in
      rising_apart d xs (p.to i) i r l h (ap (λ (zs : List R). get_or zs (p.to i) d) e ∙ p.keeps d i h)
    where
      first_of : (zs : List R) (k : ℕ) → k < length zs → R
      first_of [] k l = absurd (omega arith)
      first_of (z ∷ zs) k l = z
