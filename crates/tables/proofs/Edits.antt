-- Puts and drops on ordered lists. Assumes nothing.
use Rattle.std.proofs.Common.{◌≡◌, Bool, true, false, ◌⊎◌, List, [], ◌∷◌, Ordering, Less, Equal, Greater, sym, refl, ap, ◌∙◌, inl, inr}
use Rattle.std.proofs.lemmas.Bool.{both_ways}
use Rattle.tables.specs.Keys.{Above, Rising, by3}
use Rattle.tables.specs.Lists.{holds, put, without}
use Rattle.tables.specs.Laws.{Among, PutLaw, DropLaw, BackLaw}
use Rattle.std.specs.Cmp.{IsTotalOrder}
use Rattle.std.proofs.lemmas.Cmp.{tied_itself}
use Rattle.tables.proofs.Orders.{less_not_equal, greater_not_equal, turned, turned_back}

module _ {R : Type 0} (cmp : R → R → Ordering) (o : IsTotalOrder cmp) where
  -- ---- keys that rise go on rising

  above_put_by : (q : Ordering) (x r y : R) (ys zs : List R) → cmp x r ≡ Less → cmp x y ≡ Less → Above cmp x (by3 q (y ∷ zs) (r ∷ ys) (r ∷ y ∷ ys))
  above_put_by Less x r y ys zs p a = a
  above_put_by Equal x r y ys zs p a = p
  above_put_by Greater x r y ys zs p a = p

  above_put : (x r : R) (xs : List R) → cmp x r ≡ Less → Above cmp x xs → Above cmp x (put cmp r xs)
  above_put x r [] p a = p
  above_put x r (y ∷ ys) p a = above_put_by (cmp y r) x r y ys (put cmp r ys) p a

  above_alike : (x r : R) (xs : List R) → cmp x r ≡ Equal → Above cmp x xs → Above cmp r xs
  above_alike x r [] e a = tt
  above_alike x r (y ∷ ys) e a = sym (o.congr x r y e) ∙ a

  rises_put_by : (q : Ordering) (r x : R) (xs zs : List R) → cmp x r ≡ q → (q ≡ Less → Above cmp x zs) → Rising cmp zs → Above cmp x xs → Rising cmp xs
      → Rising cmp (by3 q (x ∷ zs) (r ∷ xs) (r ∷ x ∷ xs))
  rises_put_by Less r x xs zs e f z a h = (f refl, z)
  rises_put_by Equal r x xs zs e f z a h = (above_alike x r xs e a, h)
  rises_put_by Greater r x xs zs e f z a h = (turned_back o x r e, (a, h))

  pub rises-put : (r : R) (xs : List R) → Rising cmp xs → Rising cmp (put cmp r xs)
  rises-put r [] h = (tt, tt)
  rises-put r (x ∷ xs) (a, h) = rises_put_by (cmp x r) r x xs (put cmp r xs) refl (λ e. above_put x r xs e a) (rises-put r xs h) a h

  above_next : (x y : R) (ys : List R) → cmp x y ≡ Less → Above cmp y ys → Above cmp x ys
  above_next x y [] p a = tt
  above_next x y (z ∷ zs) p a = o.trans x y z p a

  above_without_by : (q : Ordering) (x y : R) (ys zs : List R) → cmp x y ≡ Less → Above cmp y ys → Above cmp x (by3 q (y ∷ zs) ys (y ∷ ys))
  above_without_by Less x y ys zs p a = p
  above_without_by Equal x y ys zs p a = above_next x y ys p a
  above_without_by Greater x y ys zs p a = p

  above_without : (x r : R) (xs : List R) → Above cmp x xs → Rising cmp xs → Above cmp x (without cmp r xs)
  above_without x r [] a h = tt
  above_without x r (y ∷ ys) a (b, h) = above_without_by (cmp y r) x y ys (without cmp r ys) a b

  rises_without_by : (q : Ordering) (x : R) (xs zs : List R) → Above cmp x zs → Rising cmp zs → Above cmp x xs → Rising cmp xs → Rising cmp (by3 q (x ∷ zs) xs (x ∷ xs))
  rises_without_by Less x xs zs b z a h = (b, z)
  rises_without_by Equal x xs zs b z a h = h
  rises_without_by Greater x xs zs b z a h = (a, h)

  pub rises-without : (r : R) (xs : List R) → Rising cmp xs → Rising cmp (without cmp r xs)
  rises-without r [] h = tt
  rises-without r (x ∷ xs) (a, h) = rises_without_by (cmp x r) x xs (without cmp r xs) (above_without x r xs a h) (rises-without r xs h) a h

  -- ---- which records there are

  -- the first stands before every other
  before : (x : R) (xs : List R) → Rising cmp (x ∷ xs) → (y : R) → Among y xs → cmp x y ≡ Less
  before x [] h y m = absurd m
  before x (z ∷ zs) (a, h) y (inl e) = ap (cmp x) e ∙ a
  before x (z ∷ zs) (a, h) y (inr m) = o.trans x z y a (before z zs h y m)

  -- past a record of r's key, or past a greater one, there is none of r's key
  none-past : (r x : R) (xs : List R) → Rising cmp (x ∷ xs) → cmp x r ≡ Equal → (y : R) → Among y xs → cmp y r ≡ Equal → ⊥
  none-past r x xs h e y m = greater_not_equal (turned o r y (sym (o.congr x r y e) ∙ before x xs h y m))

  none_past_greater : (r x : R) (xs : List R) → Rising cmp (x ∷ xs) → cmp x r ≡ Greater → (y : R) → Among y xs → cmp y r ≡ Equal → ⊥
  none_past_greater r x xs h e y m = greater_not_equal (turned o r y (o.trans r x y (turned_back o x r e) (before x xs h y m)))

  new_by : (q : Ordering) (r x : R) (xs zs : List R) → Among r zs → Among r (by3 q (x ∷ zs) (r ∷ xs) (r ∷ x ∷ xs))
  new_by Less r x xs zs m = inr m
  new_by Equal r x xs zs m = inl refl
  new_by Greater r x xs zs m = inl refl

  put-new : (r : R) (xs : List R) → Among r (put cmp r xs)
  put-new r [] = inl refl
  put-new r (x ∷ xs) = new_by (cmp x r) r x xs (put cmp r xs) (put-new r xs)

  kept_by : (q : Ordering) (r x : R) (xs zs : List R) (y : R) → cmp x r ≡ q → (Among y xs → Among y zs) → Among y (x ∷ xs) → (cmp y r ≡ Equal → ⊥)
      → Among y (by3 q (x ∷ zs) (r ∷ xs) (r ∷ x ∷ xs))
  kept_by Less r x xs zs y e f (inl p) n = inl p
  kept_by Less r x xs zs y e f (inr m) n = inr (f m)
  kept_by Equal r x xs zs y e f (inl p) n = absurd (n (ap (λ w. cmp w r) p ∙ e))
  kept_by Equal r x xs zs y e f (inr m) n = inr m
  kept_by Greater r x xs zs y e f m n = inr m

  put-kept : (r : R) (xs : List R) (y : R) → Among y xs → (cmp y r ≡ Equal → ⊥) → Among y (put cmp r xs)
  put-kept r [] y m n = absurd m
  put-kept r (x ∷ xs) y m n = kept_by (cmp x r) r x xs (put cmp r xs) y refl (λ k. put-kept r xs y k n) m n

  abbrev Other : R → List R → R → Type 0
  Other r xs y = Among y xs × (cmp y r ≡ Equal → ⊥)

  further : (r x : R) (xs : List R) (y : R) → (y ≡ r) ⊎ Other r xs y → (y ≡ r) ⊎ Other r (x ∷ xs) y
  further r x xs y (inl p) = inl p
  further r x xs y (inr (m, n)) = inr (inr m, n)

  only_by : (q : Ordering) (r x : R) (xs zs : List R) (y : R) → cmp x r ≡ q → Rising cmp (x ∷ xs) → (Among y zs → (y ≡ r) ⊎ Other r xs y)
      → Among y (by3 q (x ∷ zs) (r ∷ xs) (r ∷ x ∷ xs)) → (y ≡ r) ⊎ Other r (x ∷ xs) y
  only_by Less r x xs zs y e h f (inl p) = inr (inl p, less_not_equal (ap (λ w. cmp w r) p ∙ e))
  only_by Less r x xs zs y e h f (inr m) = further r x xs y (f m)
  only_by Equal r x xs zs y e h f (inl p) = inl p
  only_by Equal r x xs zs y e h f (inr m) = inr (inr m, none-past r x xs h e y m)
  only_by Greater r x xs zs y e h f (inl p) = inl p
  only_by Greater r x xs zs y e h f (inr (inl p)) = inr (inl p, greater_not_equal (ap (λ w. cmp w r) p ∙ e))
  only_by Greater r x xs zs y e h f (inr (inr m)) = inr (inr m, none_past_greater r x xs h e y m)

  put_only : (r : R) (xs : List R) → Rising cmp xs → (y : R) → Among y (put cmp r xs) → (y ≡ r) ⊎ Other r xs y
  put_only r [] h y (inl p) = inl p
  put_only r [] h y (inr m) = absurd m
  put_only r (x ∷ xs) h y m = only_by (cmp x r) r x xs (put cmp r xs) y refl h (put_only r xs h.1 y) m

  pub put_law : PutLaw R cmp
  put_law r xs h = record { rises = rises-put r xs h; new = put-new r xs; kept = put-kept r xs; only = put_only r xs h }

  left_by : (q : Ordering) (r x : R) (xs zs : List R) (y : R) → cmp x r ≡ q → (Among y xs → Among y zs) → Among y (x ∷ xs) → (cmp y r ≡ Equal → ⊥)
      → Among y (by3 q (x ∷ zs) xs (x ∷ xs))
  left_by Less r x xs zs y e f (inl p) n = inl p
  left_by Less r x xs zs y e f (inr m) n = inr (f m)
  left_by Equal r x xs zs y e f (inl p) n = absurd (n (ap (λ w. cmp w r) p ∙ e))
  left_by Equal r x xs zs y e f (inr m) n = m
  left_by Greater r x xs zs y e f m n = m

  drop-kept : (r : R) (xs : List R) (y : R) → Among y xs → (cmp y r ≡ Equal → ⊥) → Among y (without cmp r xs)
  drop-kept r [] y m n = absurd m
  drop-kept r (x ∷ xs) y m n = left_by (cmp x r) r x xs (without cmp r xs) y refl (λ k. drop-kept r xs y k n) m n

  gone_by : (q : Ordering) (r x : R) (xs zs : List R) (y : R) → cmp x r ≡ q → Rising cmp (x ∷ xs) → (Among y zs → Other r xs y)
      → Among y (by3 q (x ∷ zs) xs (x ∷ xs)) → Other r (x ∷ xs) y
  gone_by Less r x xs zs y e h f (inl p) = (inl p, less_not_equal (ap (λ w. cmp w r) p ∙ e))
  gone_by Less r x xs zs y e h f (inr m) = let (k, n) = f m in (inr k, n)
  gone_by Equal r x xs zs y e h f m = (inr m, none-past r x xs h e y m)
  gone_by Greater r x xs zs y e h f (inl p) = (inl p, greater_not_equal (ap (λ w. cmp w r) p ∙ e))
  gone_by Greater r x xs zs y e h f (inr m) = (inr m, none_past_greater r x xs h e y m)

  drop-only : (r : R) (xs : List R) → Rising cmp xs → (y : R) → Among y (without cmp r xs) → Other r xs y
  drop-only r [] h y m = absurd m
  drop-only r (x ∷ xs) h y m = gone_by (cmp x r) r x xs (without cmp r xs) y refl h (drop-only r xs h.1 y) m

  pub drop_law : DropLaw R cmp
  drop_law r xs h = record { rises = rises-without r xs h; kept = drop-kept r xs; only = drop-only r xs h }

  -- ---- a record of a new key put and dropped again

  first_out : (r : R) (xs : List R) → without cmp r (r ∷ xs) ≡ xs
  first_out r xs = ap (λ q. by3 q (r ∷ without cmp r xs) xs (r ∷ xs)) (tied_itself o r)

  back_by : (q : Ordering) (r x : R) (xs : List R) (t : Bool) → cmp x r ≡ q → (t ≡ false → without cmp r (put cmp r xs) ≡ xs)
      → by3 q t true false ≡ false → without cmp r (by3 q (x ∷ put cmp r xs) (r ∷ xs) (r ∷ x ∷ xs)) ≡ x ∷ xs
  back_by Less r x xs t e f n =
      ap (λ q. by3 q (x ∷ without cmp r (put cmp r xs)) (put cmp r xs) (x ∷ put cmp r xs)) e ∙ ap (λ l. x ∷ l) (f n)
  back_by Equal r x xs t e f n = absurd (both_ways true n refl)
  back_by Greater r x xs t e f n = first_out r (x ∷ xs)

  back : (r : R) (xs : List R) → holds cmp r xs ≡ false → without cmp r (put cmp r xs) ≡ xs
  back r [] n = first_out r []
  back r (x ∷ xs) n = back_by (cmp x r) r x xs (holds cmp r xs) refl (back r xs) n

  pub back_law : BackLaw R cmp
  back_law r xs h n = back r xs n
