-- What a call that opens or closes a rank leaves, granted or refused. Assumes nothing.
use Rattle.std.proofs.Common.{◌≡◌, ℕ, Bool, true, false, cond, List, length, sym, ap, ◌∙◌}
use Rattle.std.proofs.lemmas.Bool.{both_ways, cond-true, cond-false}
use Rattle.triangle.specs.Triangle.{tri, cell, rows_of}
use Rattle.triangle.proofs.Drawn.{drawn_as}

-- the matrix f of ys is as `done` where the test is true, and as before where it is false
module _ {X : Type 0} (z : X) (xs ys : List X) (long : length ys ≡ length xs) (done : ℕ → ℕ → X) where
  abbrev pub Outcome : Bool → Type 0
  Outcome b =
      ((i j : ℕ) → cell z ys i j ≡ cond b (done i j) (cell z xs i j))
      × ((p : ℕ) → length xs ≡ tri p → ys ≡ rows_of p (λ i j. cond b (done i j) (cell z xs i j)))
      × (b ≡ false → ys ≡ xs)

  pub granted : (b : Bool) → true ≡ b → ((i j : ℕ) → cell z ys i j ≡ done i j) → Outcome b
  granted b t is =
      let m : (i j : ℕ) → cell z ys i j ≡ cond b (done i j) (cell z xs i j) = λ i j. is i j ∙ sym (cond-true b _ _ (sym t)) in
      (m, (λ p e. drawn_as z ys p (long ∙ e) (λ i j. cond b (done i j) (cell z xs i j)) m), (λ f. absurd (both_ways b f (sym t))))

  pub left : (b : Bool) → false ≡ b → ys ≡ xs → Outcome b
  left b f same =
      let m : (i j : ℕ) → cell z ys i j ≡ cond b (done i j) (cell z xs i j) = λ i j. ap (λ l. cell z l i j) same ∙ sym (cond-false b _ _ (sym f)) in
      (m, (λ p e. drawn_as z ys p (long ∙ e) (λ i j. cond b (done i j) (cell z xs i j)) m), (λ g. same))
