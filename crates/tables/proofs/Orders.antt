-- What follows from the laws of a total order. Assumes nothing.
use Rattle.std.proofs.Common.{◌≡◌, Ordering, Less, Equal, Greater, ap, ◌∙◌}
use Rattle.std.specs.Cmp.{IsTotalOrder}
use Rattle.std.specs.Ordering.{ordering_reverse}

pub less_not_equal : {o : Ordering} → o ≡ Less → o ≡ Equal → ⊥
less_not_equal p q = cc

pub greater_not_equal : {o : Ordering} → o ≡ Greater → o ≡ Equal → ⊥
greater_not_equal p q = cc

pub turned : {R : Type 0} {cmp : R → R → Ordering} → IsTotalOrder cmp → (x y : R) → cmp x y ≡ Less → cmp y x ≡ Greater
turned o x y e = o.antisymm y x ∙ ap ordering_reverse e

pub turned_back : {R : Type 0} {cmp : R → R → Ordering} → IsTotalOrder cmp → (x y : R) → cmp x y ≡ Greater → cmp y x ≡ Less
turned_back o x y e = o.antisymm y x ∙ ap ordering_reverse e
