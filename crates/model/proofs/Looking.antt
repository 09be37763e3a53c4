-- The cells of a solution by the keys of its estimates, and by their ranks. Assumes nothing.
use Rattle.std.specs.Result.{result_unwrap_or}
use Rattle.std.proofs.Common.{◌≡◌, ℕ, ◌<◌, ◌≤◌, min, max, Bool, true, false, cond, ◌&&◌, ◌||◌, List, length, get_or, Equal, sym, refl, ap, ◌∙◌, ap₂, ⊎_elim, arith, Ok}
use Rattle.codes.specs.Order.{is_equal}
use Rattle.decimals.specs.Number.{zero_number}
use Rattle.decimals.specs.declared.number.Number.{Number}
use Rattle.model.proofs.Ranks.{found-key, found_says, place-alike, placed_own, rank_held}
use Rattle.model.proofs.Sameness.{cell-past}
use Rattle.model.proofs.Tables.{holds-alike}
use Rattle.model.specs.Cells.{arranged, look, rank_among, same_key, same_pair}
use Rattle.model.specs.Solutions.{Ordered, Solution, cell_of}
use Rattle.records.specs.KeyOrders.{parameter_order_lem}
use Rattle.records.specs.Parameters.{blank_parameter, parameter_order}
use Rattle.records.specs.declared.parameters.Parameter.{Parameter}
use Rattle.std.proofs.lemmas.Bool.{and_left, and_right, cases_lt, cond-false}
use Rattle.std.proofs.lemmas.Cmp.{alike_right}
use Rattle.tables.specs.Keys.{Rising}
use Rattle.tables.specs.Lists.{holds, place}
use Rattle.triangle.proofs.Drawn.{length-rows_of, low-rows_of, pinned}
use Rattle.triangle.proofs.Tri.{cell_sym}
use Rattle.triangle.specs.Triangle.{cell, tri}
use mathlib.Core.Bool.{and_comm, or_comm}

abbrev pub Cells : Type 0
Cells = Parameter → Parameter → Number

-- the same from both sides
abbrev pub Even : Cells → Type 0
Even f = (p q : Parameter) → f p q ≡ f q p

-- by the keys alone
abbrev pub ByKeys : Cells → Type 0
ByKeys f = (p p' q q' : Parameter) → parameter_order p p' ≡ Equal → parameter_order q q' ≡ Equal → f p q ≡ f p' q'

-- ---- a triangle that is arranged over estimates

pub length-arranged : (es : List Parameter) (f : Cells) → length (arranged es f) ≡ tri (length es)
unfolding arranged
length-arranged es f = length-rows_of (length es) (λ i j. f (get_or es i blank_parameter) (get_or es j blank_parameter))

pub arranged-past : (es : List Parameter) (f : Cells) (i j : ℕ) → length es ≤ max i j → cell zero_number (arranged es f) i j ≡ zero_number
arranged-past es f i j h = cell-past (arranged es f) (length es) i j (length-arranged es f) h

-- the greater rank's row
pub cell_in_row : (es : List Parameter) (f : Cells) (i j : ℕ) → max i j < length es
    → cell zero_number (arranged es f) i j ≡ f (get_or es (max i j) blank_parameter) (get_or es (min i j) blank_parameter)
unfolding arranged
cell_in_row es f i j h = low-rows_of zero_number (length es) (λ a b. f (get_or es a blank_parameter) (get_or es b blank_parameter)) (max i j) (min i j) (omega arith) h

pub cell-arranged : (es : List Parameter) (f : Cells) → Even f → (i j : ℕ) → i < length es → j < length es
    → cell zero_number (arranged es f) i j ≡ f (get_or es i blank_parameter) (get_or es j blank_parameter)
cell-arranged es f even i j hi hj =
    let at : ℕ → Parameter = λ n. get_or es n blank_parameter in
    ⊎_elim
    (λ lt.
    let a : max i j ≡ j = omega arith in
    let b : min i j ≡ i = omega arith in
    cell_in_row es f i j (omega arith) ∙ ap₂ (λ m n. f (at m) (at n)) a b ∙ even (at j) (at i))
    (λ ge.
    let a : max i j ≡ i = omega arith in
    let b : min i j ≡ j = omega arith in
    cell_in_row es f i j (omega arith) ∙ ap₂ (λ m n. f (at m) (at n)) a b)
    (cases_lt i j)

-- a triangle with those cells is the arranged one
pub arranged_is : (es : List Parameter) (f : Cells) → Even f → (xs : List Number) → length xs ≡ tri (length es)
    → ((i j : ℕ) → i < length es → j < length es → cell zero_number xs i j ≡ f (get_or es i blank_parameter) (get_or es j blank_parameter)) → arranged es f ≡ xs
arranged_is es f even xs long is =
    pinned zero_number (arranged es f) xs (length-arranged es f ∙ sym long) (λ i j.
    ⊎_elim
    (λ lt. cell-arranged es f even i j (omega arith) (omega arith) ∙ sym (is i j (omega arith) (omega arith)))
    (λ ge. arranged-past es f i j ge ∙ sym (cell-past xs (length es) i j long ge))
    (cases_lt (max i j) (length es)))

-- ---- a cell by two keys

pub look-found : (s : Solution) (p q : Parameter) (i j : ℕ) → place parameter_order p s.estimates ≡ Ok i → place parameter_order q s.estimates ≡ Ok j → look s p q ≡ cell_of s i j
unfolding look
look-found s p q i j hp hq =
    ap₂ (λ a b. cond (a && b) (cell_of s (rank_among s.estimates p) (rank_among s.estimates q)) zero_number)
    (found_says parameter_order p s.estimates i hp).held
    (found_says parameter_order q s.estimates j hq).held
    ∙ ap₂ (λ a b. cell_of s (result_unwrap_or a 0) (result_unwrap_or b 0)) hp hq

pub look_no_first : (s : Solution) (p q : Parameter) → holds parameter_order p s.estimates ≡ false → look s p q ≡ zero_number
unfolding look
look_no_first s p q h = cond-false (holds parameter_order p s.estimates && holds parameter_order q s.estimates) _ _ (and_left _ _ h)

pub look_no_second : (s : Solution) (p q : Parameter) → holds parameter_order q s.estimates ≡ false → look s p q ≡ zero_number
unfolding look
look_no_second s p q h =
    cond-false (holds parameter_order p s.estimates && holds parameter_order q s.estimates) _ _
    (and_right (holds parameter_order p s.estimates) (holds parameter_order q s.estimates) h)

cond_turned : (a b : Bool) (x y z : Number) → x ≡ y → cond (a && b) x z ≡ cond (b && a) y z
cond_turned true true x y z e = e
cond_turned true false x y z e = refl
cond_turned false true x y z e = refl
cond_turned false false x y z e = refl

pub look_sym : (s : Solution) → Even (look s)
unfolding look
look_sym s p q =
    cond_turned (holds parameter_order p s.estimates) (holds parameter_order q s.estimates) _ _ zero_number
    (cell_sym zero_number s.cells (rank_among s.estimates p) (rank_among s.estimates q))

pub look-alike : (s : Solution) → ByKeys (look s)
unfolding look
look-alike s p p' q q' e f =
    let es = s.estimates in
    let a : (y : Parameter) → parameter_order y p' ≡ parameter_order y p = λ y. sym (alike_right parameter_order_lem p p' y e) in
    let b : (y : Parameter) → parameter_order y q' ≡ parameter_order y q = λ y. sym (alike_right parameter_order_lem q q' y f) in
    sym (ap₂ (λ m n. cond (m && n) (cell_of s (rank_among es p') (rank_among es q')) zero_number) (holds-alike parameter_order p' p a es) (holds-alike parameter_order q' q b es)
    ∙ ap₂ (λ m n. cond (holds parameter_order p es && holds parameter_order q es) (cell_of s (result_unwrap_or m 0) (result_unwrap_or n 0)) zero_number)
    (place-alike parameter_order p' p a es)
    (place-alike parameter_order q' q b es))

-- the estimates at two ranks
pub look_at : (s : Solution) → Rising parameter_order s.estimates → (i j : ℕ) → i < length s.estimates → j < length s.estimates
    → look s (get_or s.estimates i blank_parameter) (get_or s.estimates j blank_parameter) ≡ cell_of s i j
look_at s rising i j hi hj =
    let own = placed_own parameter_order parameter_order_lem s.estimates rising in
    look-found s _ _ i j (own i blank_parameter hi) (own j blank_parameter hj)

-- a triangle that is whole is arranged over its own estimates
pub arranged-own : (s : Solution) → Ordered s → arranged s.estimates (look s) ≡ s.cells
arranged-own s o = arranged_is s.estimates (look s) (look_sym s) s.cells o.whole (λ i j hi hj. sym (look_at s o.estimates i j hi hj))

-- ---- one cell set by two keys

-- v where the two keys are those of p and q
abbrev pub set_to : Solution → Parameter → Parameter → Number → Cells
set_to s p q v k l = cond (same_pair p q k l) v (look s k l)

pub pair_turned : (p q k l : Parameter) → same_pair p q k l ≡ same_pair p q l k
pair_turned p q k l =
    or_comm (same_key k p && same_key l q) (same_key k q && same_key l p)
    ∙ ap₂ ◌||◌ (and_comm (same_key k q) (same_key l p)) (and_comm (same_key k p) (same_key l q))

pub set_sym : (s : Solution) (p q : Parameter) (v : Number) → Even (set_to s p q v)
set_sym s p q v k l = ap₂ (λ b x. cond b v x) (pair_turned p q k l) (look_sym s k l)

pub pair_alike : (p q k k' l l' : Parameter) → parameter_order k k' ≡ Equal → parameter_order l l' ≡ Equal → same_pair p q k l ≡ same_pair p q k' l'
pair_alike p q k k' l l' e f =
    let a = λ (r : Parameter). ap is_equal (parameter_order_lem.congr k k' r e) in
    let b = λ (r : Parameter). ap is_equal (parameter_order_lem.congr l l' r f) in
    ap₂ ◌||◌ (ap₂ ◌&&◌ (a p) (b q)) (ap₂ ◌&&◌ (a q) (b p))

pub set-alike : (s : Solution) (p q : Parameter) (v : Number) → ByKeys (set_to s p q v)
set-alike s p q v k k' l l' e f = ap₂ (λ b x. cond b v x) (pair_alike p q k k' l l' e f) (look-alike s k k' l l' e f)

-- ---- what is seen of cells that were arranged by keys

module _ (t : Solution) (f : Cells) (even : Even f) (by : ByKeys f) (rising : Rising parameter_order t.estimates) (is : t.cells ≡ arranged t.estimates f) where
  look_both : (p q : Parameter) (i j : ℕ) → place parameter_order p t.estimates ≡ Ok i → place parameter_order q t.estimates ≡ Ok j → look t p q ≡ f p q
  look_both p q i j hp hq =
      let es = t.estimates in
      look-found t p q i j hp hq
      ∙ ap (λ l. cell zero_number l i j) is
      ∙ cell-arranged es f even i j (found_says parameter_order p es i hp).within (found_says parameter_order q es j hq).within
      ∙ by _ p _ q (found-key parameter_order parameter_order_lem es rising p i blank_parameter hp) (found-key parameter_order parameter_order_lem es rising q j blank_parameter hq)

  -- both estimates are there
  pub look-held : (p q : Parameter) → holds parameter_order p t.estimates ≡ true → holds parameter_order q t.estimates ≡ true → look t p q ≡ f p q
  look-held p q hp hq =
      let (i, a) = rank_held parameter_order p t.estimates hp in
      let (j, b) = rank_held parameter_order q t.estimates hq in
      look_both p q i j a b

  pub look-arranged : (p q : Parameter) → look t p q ≡ cond (holds parameter_order p t.estimates && holds parameter_order q t.estimates) (f p q) zero_number
  look-arranged p q =
      by_holding (holds parameter_order p t.estimates) (holds parameter_order q t.estimates) (look-held p q) (look_no_first t p q) (look_no_second t p q)
    where
      by_holding : (a b : Bool) → (a ≡ true → b ≡ true → look t p q ≡ f p q) → (a ≡ false → look t p q ≡ zero_number) → (b ≡ false → look t p q ≡ zero_number)
          → look t p q ≡ cond (a && b) (f p q) zero_number
      by_holding true true y m n = y refl refl
      by_holding true false y m n = n refl
      by_holding false b y m n = m refl
