-- Tables tell solutions apart, and nothing else. Assumes nothing.
use Rattle.model.proofs.Laying.{shown_is}
use Rattle.model.proofs.Sameness.{ordered_equal}
use Rattle.model.specs.EditLaws.{TablesAreSolutions}
use Rattle.model.specs.Solutions.{Solution}
use Rattle.model.specs.States.{Stands, State, state_of}
use Rattle.model.specs.Steps.{shown}
use Rattle.std.proofs.Common.{◌≡◌, sym, ap, ◌∙◌, ap₂}

-- equal tables show equal solutions
same-shown : (x y : State) (s t : Solution) → Stands x s → Stands y t → x ≡ y → s ≡ t
same-shown x y s t h k e = sym (shown_is x s h) ∙ ap shown e ∙ shown_is y t k

-- equal solutions are laid out alike
same-laid : (x y : State) (s t : Solution) → Stands x s → Stands y t → x.places ≡ y.places → s ≡ t → x ≡ y
same-laid x y s t h k p e = h.laid_out ∙ ap₂ state_of p e ∙ sym k.laid_out

pub tables_are_solutions : TablesAreSolutions
tables_are_solutions x y s t h k p =
    let both = ordered_equal s t h.kept.ordered k.kept.ordered in
    ((λ e. both.1 (same-shown x y s t h k e)), (λ q. same-laid x y s t h k p (both.0 q)))
