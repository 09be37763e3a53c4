-- A list in the first of 26 places is as long as the count beside it: so the places and the count are given back by the list.
use Rattle.std.proofs.Common.{◌≡◌, ℕ, ◌+◌, ◌-◌, ◌≤◌, List, ◌++◌, length, take, replicate, sym, ap, subst, ◌∙◌}
use Rattle.std.proofs.lemmas.List.{length-append, length-replicate, length-take, length-take-le}
use Rattle.std.proofs.Math.Nat.{add-sub_of_le, le_trans, min-le_left}
use Rattle.frame.specs.Blocks.{no_block}
use Rattle.frame.specs.Lines.{padded}
use Rattle.frame.specs.declared.walk.Block.{Block}

pub counted_back : (xs : List Block) (k : ℕ) → k ≤ 26 → xs ≡ padded no_block 26 (take k xs) → length (take k xs) ≡ k
counted_back xs k h e =
    let few : length (take k xs) ≤ k = subst (λ (t : ℕ). t ≤ k) (sym (length-take k xs)) (min-le_left k (length xs)) in
    let rest = 26 - length (take k xs) in
    let long : length xs ≡ 26 = ap length e ∙ (length-append (take k xs) (replicate rest no_block) ∙ (ap (λ (t : ℕ). length (take k xs) + t) (length-replicate rest no_block) ∙ add-sub_of_le (le_trans few h))) in
    length-take-le k xs (subst (λ (t : ℕ). k ≤ t) (sym long) h)
