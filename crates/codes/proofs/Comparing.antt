-- Total orders in which only equal values compare equal: of numbers, of texts, and of one part after another. Assumes nothing.
use Rattle.std.proofs.Common.{◌≡◌, Ordering, Less, Equal, Greater, refl, ap, subst}
use Rattle.std.specs.Cmp.{IsTotalOrder}
use Rattle.std.specs.FinMap.{IsAntisymmetric, nat_cmp-IsAntisymmetric, slice_cmp-IsAntisymmetric}
use Rattle.std.specs.Ordering.{MatchOrdering, ordering_then, nat_cmp}
use Rattle.std.proofs.lemmas.Cmp.{nat_cmp_total, nat_list_cmp_total, on_total, then_total}
use Rattle.codes.specs.Order.{TotalOrder, lex}

pub total_of : {R : Type 0} {c : R → R → Ordering} → IsTotalOrder c → IsAntisymmetric c → TotalOrder c
total_of o same = record { flip = o.antisymm; trans = o.trans; same = same }

pub laws_of : {R : Type 0} {c : R → R → Ordering} → TotalOrder c → IsTotalOrder c
laws_of {c = c} o = record { antisymm = o.flip; trans = o.trans; congr = λ x y z e. ap (λ t. c t z) (o.same x y e) }

pub rank_order : TotalOrder nat_cmp
rank_order = total_of nat_cmp_total nat_cmp-IsAntisymmetric

pub lex_order : TotalOrder lex
lex_order = total_of nat_list_cmp_total (slice_cmp-IsAntisymmetric nat_cmp-IsAntisymmetric)

-- equal answers are both equal
both : (o p : Ordering) → ordering_then o p ≡ Equal → (o ≡ Equal) × (p ≡ Equal)
both Less p e = absurd (subst (λ o. MatchOrdering o (Unit {0}) ⊥ ⊥) e tt)
both Equal p e = (refl, e)
both Greater p e = absurd (subst (λ o. MatchOrdering o ⊥ ⊥ (Unit {0})) e tt)

-- by one part and then by another, where the two make up the whole
pub then_order : {R A B : Type 0} (f : R → A) (g : R → B) (c : A → A → Ordering) (d : B → B → Ordering) → TotalOrder c → TotalOrder d
    → ((x y : R) → f x ≡ f y → g x ≡ g y → x ≡ y) → TotalOrder (λ x y. ordering_then (c (f x) (f y)) (d (g x) (g y)))
then_order f g c d oc od whole = total_of (then_total (on_total f (laws_of oc)) (on_total g (laws_of od)))
    (λ x y e. let (p, q) = both (c (f x) (f y)) (d (g x) (g y)) e in whole x y (oc.same (f x) (f y) p) (od.same (g x) (g y) q))
