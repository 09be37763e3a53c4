-- Lists that are equal in any order.
use Rattle.std.specs.Prelude.{◌≡◌, ℕ, ◌<◌, List, length, slice_index_or}

-- a one-to-one pairing of the places of two lists that keeps what stands there
pub record Pairing {R : Type 0} (xs ys : List R) : Type 0 where
  pub to : ℕ → ℕ
  pub back : ℕ → ℕ
  pub into : (i : ℕ) → i < length xs → to i < length ys
  pub onto : (j : ℕ) → j < length ys → back j < length xs
  pub back_to : (i : ℕ) → i < length xs → back (to i) ≡ i
  pub to_back : (j : ℕ) → j < length ys → to (back j) ≡ j
  pub keeps : (d : R) (i : ℕ) → i < length xs → slice_index_or ys (to i) d ≡ slice_index_or xs i d
