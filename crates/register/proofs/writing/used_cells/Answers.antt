use Rattle.std.proofs.Common.{◌≡◌, ℕ, ◌-◌, min, cond, List, length, take, Some, None, sym, ap, ◌∙◌, inl, inr, arith}
use Rattle.register.proofs.writing.used_cells.Goals as goal
use Rattle.std.proofs.lemmas.List.{take_all}
use Rattle.std.proofs.lemmas.Bool.{cases_lt, le-leb}
use Rattle.triangle.specs.Triangle.{tri}

-- a part that would end past the list is the whole list
part : {X : Type 0} (n k : ℕ) (xs : List X) → k ≡ min n (length xs) → take k xs ≡ take n xs
part n k xs e =
    elim (cases_lt n (length xs)) [
      | inl h ↦ let m : k ≡ n = omega arith in ap (λ i. take i xs) m
      | inr h ↦ take_all k xs (omega arith) ∙ sym (take_all n xs (omega arith))
    ]

some_same : (n m : ℕ) → Some n ≡ Some m → n ≡ m
some_same n m e = cc

pub returns-in-Some : goal.returns-in-Some
returns-in-Some c h =
    let ranks = c.args.ranks in
    let cells = c.args.cells.now in
    let n = c.in-Some.n in
    let places : n ≡ tri ranks = some_same n (tri ranks) (c.in-Some.ensures ∙ ap (λ b. cond b (Some (tri ranks)) None) (le-leb ranks 2000 h)) in
    part n (c.min.result - 0) cells (omega (arith, c.min.ensures)) ∙ ap (λ i. take i cells) places
