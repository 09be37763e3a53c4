-- Lists whose keys rise. That the keys have a total order is std's `IsTotalOrder`.
use Rattle.std.specs.Prelude.{◌≡◌, List, [], ◌∷◌}
use Rattle.std.specs.declared.cmp.Ordering.TheVariants.{Less, Equal, Greater}
use Rattle.std.specs.declared.cmp.Ordering.{Ordering}

-- x stands before the first of the list
abbrev pub Above : {R : Type 0} → (R → R → Ordering) → R → List R → Type 0
Above cmp x [] = Unit {0}
Above cmp x (y ∷ ys) = cmp x y ≡ Less

-- the keys rise strictly
abbrev pub Rising : {R : Type 0} → (R → R → Ordering) → List R → Type 0
Rising cmp [] = Unit {0}
Rising cmp (x ∷ xs) = Above cmp x xs × Rising cmp xs

-- one of three by an answer: less, equal, greater
abbrev pub by3 : {A : Type 0} → Ordering → A → A → A → A
by3 Less a b c = a
by3 Equal a b c = b
by3 Greater a b c = c
