-- Orders of texts and numbers.
use Rattle.std.specs.Prelude.{◌≡◌, ℕ, Bool, List}
use Rattle.std.specs.declared.cmp.Ordering.TheVariants.{Less, Equal}
use Rattle.std.specs.declared.cmp.Ordering.{Ordering}
use Rattle.std.specs.Cmp.Lexicographic.{slice_cmp}
use Rattle.std.specs.Ordering.{ordering_reverse, is_eq, nat_cmp}

-- a total order in which only equal values compare equal
pub record TotalOrder {R : Type 0} (cmp : R → R → Ordering) : Type 0 where
  pub flip : (x y : R) → cmp x y ≡ ordering_reverse (cmp y x)
  pub trans : (x y z : R) → cmp x y ≡ Less → cmp y z ≡ Less → cmp x z ≡ Less
  pub same : (x y : R) → cmp x y ≡ Equal → x ≡ y

-- texts byte by byte
abbrev pub lex : List ℕ → List ℕ → Ordering
lex xs ys = slice_cmp nat_cmp xs ys

abbrev pub is_equal : Ordering → Bool
is_equal o = is_eq o

-- whether two texts are the same
abbrev pub same_text : List ℕ → List ℕ → Bool
same_text xs ys = is_equal (lex xs ys)

abbrev pub TextsAreOrdered : Type 0
TextsAreOrdered = TotalOrder lex
