-- The laws of opening and closing a rank. Assumes nothing.
use Rattle.std.proofs.Common.{◌≡◌, ℕ, ◌+◌, ◌-◌, ◌<◌, ◌≤◌, min, max, true, cond, ◌||◌, eqb, leb, refl, ap, ◌∙◌, ⊎_elim, arith}
use native.Mathlib.Nat.{max_comm, min_comm}
use Rattle.std.proofs.lemmas.Bool.{and_from, cases_lt, cases_eq, eq-eqb}
use Rattle.std.proofs.lemmas.Bool.Decides.{nat_tests}
use Rattle.triangle.specs.Triangle.{tri, cell, skip, jump, opened, closed}
use Rattle.triangle.specs.Laws.{Blank, Places, Moved, Opened, Closed, Pinned}
use Rattle.triangle.proofs.Tri.{spot-max, spot-min, low_below}
use Rattle.triangle.proofs.Drawn.{drawn_as, pinned}
use Rattle.triangle.proofs.Lifts.{skip-jump, jump_not}

pub places : Places
places = record {
  one = λ i j a b e.
      and_from (eqb (max a b) (max i j)) (eqb (min a b) (min i j)) (eq-eqb (max a b) (max i j) (spot-max i j a b e)) (eq-eqb (min a b) (min i j) (spot-min i j a b e));
  either = λ i j. ap (λ m. tri m + min i j) (max_comm i j) ∙ ap (λ m. tri (max j i) + m) (min_comm i j);
  within = λ p i j lt. low_below (max i j) (min i j) p (omega arith) lt;
}

pub moved : (X : Type 0) → Moved X
moved X f n r i j hr hi hj =
    let t : leb (max (jump r i) (jump r j)) n ≡ true = grind (arith, nat_tests) in
    grind (arith, nat_tests, skip-jump r i, skip-jump r j, jump_not r i, jump_not r j, t)

module _ {X : Type 0} (z : X) (f : ℕ → ℕ → X) (n r : ℕ) where
  opened_is : r ≤ n → Blank z n f → (i j : ℕ) → opened z n r f i j ≡ cond (eqb i r || eqb j r) z (f (skip r i) (skip r j))
  opened_is hr bl i j =
      ⊎_elim
      (λ lt. let p : n ≤ max (skip r i) (skip r j) = grind (arith, nat_tests) in
      grind (arith, nat_tests, bl i j (omega arith), bl (skip r i) (skip r j) p))
      (λ ge. grind (arith, nat_tests))
      (cases_lt n (max i j))

  opened-blank : r ≤ n → Blank z n f → Blank z (n + 1) (opened z n r f)
  opened-blank hr bl i j h = grind (arith, nat_tests, bl i j (omega arith))

  closed_is : r < n → Blank z n f → (i j : ℕ) → closed z n r f i j ≡ f (jump r i) (jump r j)
  closed_is hr bl i j =
      ⊎_elim
      (λ lt. grind (arith, nat_tests))
      (λ ge. let p : n ≤ max (jump r i) (jump r j) = grind (arith, nat_tests) in
      ⊎_elim
      (λ e. grind (arith, nat_tests, bl (jump r i) (jump r j) p))
      (λ ne. grind (arith, nat_tests, bl i j (omega arith), bl (jump r i) (jump r j) p))
      (cases_eq (max i j + 1) n))
      (cases_lt (max i j + 1) n)

  closed-blank : r < n → Blank z n f → Blank z (n - 1) (closed z n r f)
  closed-blank hr bl i j h =
      ⊎_elim (λ e. grind (arith, nat_tests)) (λ ne. grind (arith, nat_tests, bl i j (omega arith))) (cases_eq (max i j + 1) n)

module _ (X : Type 0) (z : X) where
  pub opens : Opened X z
  opens f n r hr bl = (opened_is z f n r hr bl, opened-blank z f n r hr bl)

  pub closes : Closed X z
  closes f n r hr bl = (closed_is z f n r hr bl, closed-blank z f n r hr bl)

  pub all_pinned : Pinned X z
  all_pinned = record { only = pinned z; rows = λ p xs e. drawn_as z xs p e (cell z xs) (λ i j. refl) }
