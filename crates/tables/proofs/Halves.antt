-- The search by halving: how many steps it is given does not matter, once they suffice. Assumes nothing.
use Rattle.std.proofs.Common.{◌≡◌, ℕ, zero, suc, ◌+◌, ◌-◌, ◌<◌, ◌≤◌, ltb, List, length, get_or, Ok, Err, Result, Ordering, sym, refl, ap, ◌∙◌, ⊎_elim, arith}
use Rattle.std.proofs.lemmas.List.{get_or_read}
use Rattle.std.proofs.lemmas.Bool.{cases_lt, cond-true, cond-false, lt-ltb, le-ltb}
use Rattle.tables.specs.Keys.{by3}
use Rattle.tables.specs.Rows.{middle, halving}

module _ {R : Type 0} (cmp : R → R → Ordering) (r : R) (xs : List R) where
  -- one step, its comparison answered
  abbrev pub step : Ordering → ℕ → ℕ → ℕ → ℕ → Result ℕ ℕ
  step o n m low high =
      by3 o (halving cmp r xs n (middle low high + 1) high) (Ok (middle low high)) (halving cmp r xs m low (middle low high))

  pub halving_more : (n low high : ℕ) → low < high → halving cmp r xs (suc n) low high ≡ step (cmp (get_or xs (middle low high) r) r) n n low high
  halving_more n low high lt = cond-true (ltb low high) _ _ (lt-ltb low high lt)

  pub halving-end : (n low high : ℕ) → high ≤ low → halving cmp r xs n low high ≡ Err low
  halving-end zero low high le = refl
  halving-end (suc n) low high le = cond-false (ltb low high) _ _ (le-ltb low high le)

  pub fuel : (n m low high : ℕ) → high - low ≤ n → high - low ≤ m → halving cmp r xs n low high ≡ halving cmp r xs m low high
  fuel zero m low high p q = sym (halving-end m low high (omega arith))
  fuel (suc n) zero low high p q = halving-end (suc n) low high (omega arith)
  fuel (suc n) (suc m) low high p q =
      ⊎_elim
      (λ lt.
      let o = cmp (get_or xs (middle low high) r) r in
      halving_more n low high lt
      ∙ ap (λ t. by3 o t (Ok (middle low high)) (halving cmp r xs n low (middle low high))) (fuel n m (middle low high + 1) high (omega arith) (omega arith))
      ∙ ap (λ t. by3 o (halving cmp r xs m (middle low high + 1) high) (Ok (middle low high)) t) (fuel n m low (middle low high) (omega arith) (omega arith))
      ∙ sym (halving_more m low high lt))
      (λ ge. halving-end (suc n) low high ge ∙ sym (halving-end (suc m) low high ge))
      (cases_lt low high)

  pub halve_step : (low high : ℕ) (x : R) (o : Ordering) → low < high → high ≤ length xs → x ≡ get_or xs (middle low high) x → o ≡ cmp x r
      → halving cmp r xs (high - low) low high ≡ step o (high - (middle low high + 1)) (middle low high - low) low high
  halve_step low high x o lt le read e =
      let n = high - low - 1 in
      let m = middle low high in
      let s : high - low ≡ suc n = omega arith in
      let a : x ≡ get_or xs m r = get_or_read xs m x (omega arith) read r in
      ap (λ t. halving cmp r xs t low high) s
      ∙ halving_more n low high lt
      ∙ ap (λ q. step q n n low high) (ap (λ y. cmp y r) (sym a) ∙ sym e)
      ∙ ap (λ t. by3 o t (Ok m) (halving cmp r xs n low m)) (fuel n (high - (m + 1)) (m + 1) high (omega arith) (omega arith))
      ∙ ap (λ t. by3 o (halving cmp r xs (high - (m + 1)) (m + 1) high) (Ok m) t) (fuel n (m - low) low m (omega arith) (omega arith))
