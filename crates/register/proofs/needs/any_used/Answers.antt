use Rattle.std.proofs.Common.{◌≡◌, Bool, List, [], ◌∷◌, refl, ap, ◌∙◌, ◌||◌, take}
use Rattle.std.proofs.lemmas.Iterator.{YieldsList-from_slice}
use Rattle.std.proofs.lemmas.Iterator.Search.{any_from_yields_List}
use Rattle.std.specs.List.{list_any}
use Rattle.model.specs.Needs.{any_of}
use Rattle.register.proofs.needs.any_used.Goals as goal

any_is : {R : Type 0} (f : R → Bool) (xs : List R) → list_any f xs ≡ any_of f xs
any_is f [] = refl
any_is f (x ∷ xs) = ap (λ b. f x || b) (any_is f xs)

pub returns : goal.returns
returns g c = λ met k.
    let done = any_from_yields_List met _ _ c.any.result c.any.ensures.ran (YieldsList-from_slice _ c.iter.ensures.rest)
    (λ x b q h. (g.met.F.Fn.1.step_stays _ _ _ _ (record { met = h.met }), k.each x b ((g.met.F.FnMut.1.post_iff _ _ _).1 (q, record { met = h.met })))) in
    done ∙ any_is met _ ∙ ap (λ n. any_of met (take n c.args.rows.now)) c.min.ensures
