-- Counts, angles and heights: what is written is read, and what is read is within its range.
use Rattle.std.proofs.Common.{◌≡◌, ℕ, zero, suc, ◌+◌, ◌*◌, ◌/◌, ◌%◌, ◌^◌, ◌<◌, ◌≤◌, Bool, true, false, cond, ◌&&◌, ltb, leb, List, [], ◌∷◌, ◌++◌, length, ℤ, pos, negsuc, neg_ℤ, nat_abs, ◌≤ℤ◌, Some, None, Ok, Err, Option, Result, sym, refl, ap, ◌∙◌, subst, mod-eq_of_lt, div-one, arith}
use Rattle.std.proofs.lemmas.List.{append-nil}
use Rattle.std.proofs.lemmas.Int.{ints}
use Rattle.std.proofs.lemmas.Bool.{cond-true, cond_both, and_from, and_parts, le-leb, lt-ltb, leb-true}
use Rattle.refusals.specs.declared.Fault.{Fault}
use Rattle.refusals.specs.declared.Fault.TheVariants.{WrongText, WrongNumber, NumberOutOfRange}
use Rattle.decimals.specs.Scan.{unblank, minus, unsigned, digits_from}
use Rattle.decimals.specs.Number.{signed}
use Rattle.decimals.specs.Numeral.{numeral, tenths}
use Rattle.decimals.specs.Write.{below, fixed}
use Rattle.decimals.specs.Grammar.{OnlyDigits}
use Rattle.decimals.specs.Justify.{justified}
use Rattle.decimals.proofs.Bounds.{unblank_le}
use Rattle.decimals.proofs.Fixed.{digit_of}
use Rattle.decimals.proofs.Runs.{Below, Justified, right_shown, right_numeral, justified_read, justified-plain, numeral-run, numeral-fixed, numeral-below, tenths-run, fixed_number, digit_front, length-justified}
use Rattle.fields.specs.Count.{or_wrong_number, CountsComeBack}
use Rattle.fields.specs.Angle.{columns, spaced, angle, angle_of, angle_rest, read_longitude, read_latitude, height_of, read_height, angle_text, height_text, LongitudesComeBack, LatitudesComeBack, HeightsComeBack}
use Rattle.decimals.proofs.Faults.{no_fault, same_result}

-- ---- counts

-- five digits do not begin with a blank
digits-unblank : (k m : ℕ) → unblank (fixed (suc k) m) ≡ fixed (suc k) m
digits-unblank k m = (digit_front (48 + m / 10 ^ k % 10) (fixed k m) (digit_of (m / 10 ^ k))).0

count-below : (o : Option ℕ) (n b : ℕ) → Below b o → or_wrong_number o ≡ Ok n → n < b
count-below (Some m) n b h e = subst (λ k. k < b) (same_result m n e) h
count-below None n b h e = absurd (no_fault WrongNumber n e)

pub counts_come_back : CountsComeBack
counts_come_back = (
  (λ bs n l e. count-below (numeral (unblank bs)) n 100000 (numeral-below (unblank bs) 5 (omega (arith, unblank_le bs))) e),
  (λ n h. (
    ap or_wrong_number (right_numeral 5 n (omega arith) (omega arith) h),
    ap or_wrong_number (ap numeral (digits-unblank 4 n) ∙ (numeral-fixed 5 n (omega arith) (omega arith) ∙ ap Some (mod-eq_of_lt h))),
  )),
)

-- ---- the parts of an angle's text

abbrev joined : List ℕ → List ℕ → List ℕ → ℕ → List ℕ
joined d m s y = d ++ (32 ∷ (m ++ (32 ∷ (s ++ (46 ∷ (y ∷ []))))))

pub record Cut (d m s : List ℕ) (y : ℕ) : Type 0 where
  pub spaced : spaced (joined d m s y) ≡ true
  pub degrees : columns 0 3 (joined d m s y) ≡ d
  pub minutes : columns 4 6 (joined d m s y) ≡ m
  pub seconds : columns 7 11 (joined d m s y) ≡ s ++ (46 ∷ (y ∷ []))

two_of : (xs : List ℕ) → length xs ≡ 2 → (a : ℕ) × (b : ℕ) × (xs ≡ a ∷ (b ∷ []))
two_of [] h = absurd (omega arith)
two_of (a ∷ []) h = absurd (omega arith)
two_of (a ∷ (b ∷ [])) h = (a, b, refl)
two_of (a ∷ (b ∷ (c ∷ cs))) h = absurd (omega arith)

three_of : (xs : List ℕ) → length xs ≡ 3 → (a : ℕ) × (b : ℕ) × (c : ℕ) × (xs ≡ a ∷ (b ∷ (c ∷ [])))
three_of [] h = absurd (omega arith)
three_of (a ∷ xs) h = let t = two_of xs (omega arith) in (a, t.0, t.1, ap (λ x. a ∷ x) t.2)

cut : (d m s : List ℕ) (y : ℕ) → length d ≡ 3 → length m ≡ 2 → length s ≡ 2 → Cut d m s y
cut d m s y a b c =
    let d' = three_of d a in
    let m' = two_of m b in
    let s' = two_of s c in
    subst (λ x. Cut x m s y) (sym d'.3) (subst (λ x. Cut (d'.0 ∷ (d'.1 ∷ (d'.2 ∷ []))) x s y) (sym m'.2) (subst (λ x. Cut (d'.0 ∷ (d'.1 ∷ (d'.2 ∷ []))) (m'.0 ∷ (m'.1 ∷ [])) x y) (sym s'.2)
    (record { spaced = refl; degrees = refl; minutes = refl; seconds = refl })))

-- ---- angles

tenths-shown : (ds : List ℕ) (k n : ℕ) → OnlyDigits ds → 1 ≤ length ds → length ds ≤ 7 → digits_from 0 ds ≡ k → tenths (ds ++ (46 ∷ fixed 1 n)) ≡ Some (k * 10 + n % 10)
tenths-shown ds k n o a b v =
    tenths-run ds (48 + n / 1 % 10) o (digit_of (n / 1)) a b ∙ ap Some (omega (arith, v, div-one n))

seconds_read : (n : ℕ) → tenths (unblank (justified false 2 (n % 600 / 10) ++ (46 ∷ fixed 1 n))) ≡ Some (n % 600)
seconds_read n =
    let k : ℕ = n % 600 / 10 in
    let s = right_shown 2 k (46 ∷ fixed 1 n) (omega arith) in
    ap tenths s.read ∙ (tenths-shown s.digits k n s.only s.some (omega (arith, s.few)) (s.value ∙ (fixed_number 2 k ∙ omega arith)) ∙ ap Some (omega arith))

angle_yes : (most : ℕ) (neg : Bool) (n : ℕ) → n ≤ most → angle most neg (n / 36000) (n / 600 % 60) (n % 600) ≡ Ok (signed neg n)
angle_yes most neg n h =
    let d : ℕ = n / 36000 in
    let m : ℕ = n / 600 % 60 in
    let s : ℕ = n % 600 in
    let e : d * 36000 + m * 600 + s ≡ n = omega arith in
    cond-true _ _ _ (and_from (ltb m 60) (ltb s 600 && leb (d * 36000 + m * 600 + s) most) (lt-ltb m 60 (omega arith)) (and_from (ltb s 600) (leb (d * 36000 + m * 600 + s) most) (lt-ltb s 600 (omega arith)) (le-leb (d * 36000 + m * 600 + s) most (omega arith))))
    ∙ ap (λ x. Ok (signed neg x)) e

abbrev pub angle_bytes : Bool → ℕ → List ℕ
angle_bytes neg n = joined (justified neg 3 (n / 36000)) (justified false 2 (n / 600 % 60)) (justified false 2 (n % 600 / 10)) (48 + n / 1 % 10)

pub cut-angle : (neg : Bool) (n : ℕ) → Cut (justified neg 3 (n / 36000)) (justified false 2 (n / 600 % 60)) (justified false 2 (n % 600 / 10)) (48 + n / 1 % 10)
cut-angle neg n = cut (justified neg 3 (n / 36000)) (justified false 2 (n / 600 % 60)) (justified false 2 (n % 600 / 10)) (48 + n / 1 % 10) (length-justified neg 3 (n / 36000)) (length-justified false 2 (n / 600 % 60)) (length-justified false 2 (n % 600 / 10))

rest_read : (most : ℕ) (sign neg : Bool) (n : ℕ) → n ≤ most → angle_rest most neg (Some (n / 36000)) (angle_bytes sign n) ≡ Ok (signed neg n)
rest_read most sign neg n h =
    let c = cut-angle sign n in
    ap (λ x. angle_of most neg (Some (n / 36000)) (numeral (unblank x)) (tenths (unblank (columns 7 11 (angle_bytes sign n))))) c.minutes
    ∙ (ap (λ x. angle_of most neg (Some (n / 36000)) (numeral (unblank (justified false 2 (n / 600 % 60)))) (tenths (unblank x))) c.seconds
    ∙ (ap (λ x. angle_of most neg (Some (n / 36000)) x (tenths (unblank (justified false 2 (n % 600 / 10) ++ (46 ∷ fixed 1 n))))) (right_numeral 2 (n / 600 % 60) (omega arith) (omega arith) (omega arith))
    ∙ (ap (λ x. angle_of most neg (Some (n / 36000)) (Some (n / 600 % 60)) x) (seconds_read n)
    ∙ angle_yes most neg n h)))

latitude_bytes : (neg : Bool) (n : ℕ) → n ≤ 3240000 → read_latitude (angle_bytes neg n) ≡ Ok (signed neg n)
unfolding read_latitude
latitude_bytes neg n h =
    let d : ℕ = n / 36000 in
    let c = cut-angle neg n in
    let j = justified_read neg 1 d [] (omega arith) in
    let u : unblank (columns 0 3 (angle_bytes neg n)) ≡ unblank (justified neg 3 d ++ []) = ap unblank (c.degrees ∙ sym (append-nil (justified neg 3 d))) in
    let x : minus (unblank (columns 0 3 (angle_bytes neg n))) ≡ neg = ap minus u ∙ j.sign in
    let y : numeral (unsigned (unblank (columns 0 3 (angle_bytes neg n)))) ≡ Some d =
    ap (λ t. numeral (unsigned t)) u ∙ (ap numeral (j.rest ∙ append-nil j.digits) ∙ (numeral-run j.digits j.only j.some (omega (arith, j.few)) ∙ ap Some j.value)) in
    cond-true _ _ _ c.spaced
    ∙ (ap (λ b. angle_rest 3240000 b (numeral (unsigned (unblank (columns 0 3 (angle_bytes neg n))))) (angle_bytes neg n)) x
    ∙ (ap (λ o. angle_rest 3240000 neg o (angle_bytes neg n)) y ∙ rest_read 3240000 neg neg n h))

longitude_bytes : (n : ℕ) → n ≤ 12959999 → read_longitude (angle_bytes false n) ≡ Ok (pos n)
unfolding read_longitude
longitude_bytes n h =
    let c = cut-angle false n in
    let y : numeral (unblank (columns 0 3 (angle_bytes false n))) ≡ Some (n / 36000) = ap (λ t. numeral (unblank t)) c.degrees ∙ right_numeral 3 (n / 36000) (omega arith) (omega arith) (omega arith) in
    cond-true _ _ _ c.spaced ∙ (ap (λ o. angle_rest 12959999 false o (angle_bytes false n)) y ∙ rest_read 12959999 false false n h)

signed_back : (z : ℤ) → signed (below z) (nat_abs z) ≡ z
signed_back (pos n) = refl
signed_back (negsuc n) = refl

nat_abs_signed : (neg : Bool) (n : ℕ) → nat_abs (signed neg n) ≡ n
nat_abs_signed true zero = refl
nat_abs_signed true (suc n) = refl
nat_abs_signed false n = refl

-- the range of what is read
pub record Ranged (most : ℕ) (neg : Bool) (z : ℤ) : Type 0 where
  pub size : ℕ
  pub few : size ≤ most
  pub is : z ≡ signed neg size

abbrev InRange : ℕ → Bool → Result ℤ Fault → Type 0
InRange most neg (Ok z) = Ranged most neg z
InRange most neg (Err e) = Unit {0}

angle_ranged : (most : ℕ) (neg : Bool) (d m s : Option ℕ) → InRange most neg (angle_of most neg d m s)
angle_ranged most neg (Some d) (Some m) (Some s) =
    let n : ℕ = d * 36000 + m * 600 + s in
    cond_both (ltb m 60 && (ltb s 600 && leb n most)) (Ok (signed neg n)) (Err NumberOutOfRange) (InRange most neg)
    (λ t.
    let p = and_parts (ltb m 60) (ltb s 600 && leb n most) t in
    let q = and_parts (ltb s 600) (leb n most) p.1 in
    record { size = n; few = leb-true n most q.1; is = refl })
    (λ _. tt)
angle_ranged most neg (Some d) (Some m) None = tt
angle_ranged most neg (Some d) None s = tt
angle_ranged most neg None m s = tt

latitude_ranged : (bs : List ℕ) → InRange 3240000 (minus (unblank (columns 0 3 bs))) (read_latitude bs)
unfolding read_latitude
latitude_ranged bs = cond_both (spaced bs) (angle_rest 3240000 (minus (unblank (columns 0 3 bs))) (numeral (unsigned (unblank (columns 0 3 bs)))) bs) (Err WrongText) (InRange 3240000 (minus (unblank (columns 0 3 bs))))
    (λ _. angle_ranged 3240000 (minus (unblank (columns 0 3 bs))) (numeral (unsigned (unblank (columns 0 3 bs)))) (numeral (unblank (columns 4 6 bs))) (tenths (unblank (columns 7 11 bs))))
    (λ _. tt)

longitude_ranged : (bs : List ℕ) → InRange 12959999 false (read_longitude bs)
unfolding read_longitude
longitude_ranged bs = cond_both (spaced bs) (angle_rest 12959999 false (numeral (unblank (columns 0 3 bs))) bs) (Err WrongText) (InRange 12959999 false)
    (λ _. angle_ranged 12959999 false (numeral (unblank (columns 0 3 bs))) (numeral (unblank (columns 4 6 bs))) (tenths (unblank (columns 7 11 bs))))
    (λ _. tt)

pub latitudes_come_back : LatitudesComeBack
latitudes_come_back = (
  (λ bs z e. let r = subst (InRange 3240000 (minus (unblank (columns 0 3 bs)))) e (latitude_ranged bs) in omega (arith, r.few, ap nat_abs r.is, nat_abs_signed (minus (unblank (columns 0 3 bs))) r.size)),
  (λ z h. latitude_bytes (below z) (nat_abs z) h ∙ ap Ok (signed_back z)),
)

longitude-back : (z : ℤ) → pos 0 ≤ℤ z → z ≤ℤ pos 12959999 → read_longitude (angle_text z) ≡ Ok z
longitude-back (pos n) a b = longitude_bytes n (omega (arith, ints, b))
longitude-back (negsuc n) a b = absurd (omega (arith, ints, a))

pub longitudes_come_back : LongitudesComeBack
longitudes_come_back = (
  (λ bs z e. let r = subst (InRange 12959999 false) e (longitude_ranged bs) in let x : z ≡ pos r.size = r.is in let l = r.few in (omega (arith, ints, x, l), omega (arith, ints, x, l))),
  longitude-back,
)

-- ---- heights

height_bytes : (neg : Bool) (n : ℕ) → Justified neg 5 (n / 10) (46 ∷ fixed 1 n) → n ≤ cond neg 99999 999999 → read_height (justified neg 5 (n / 10) ++ (46 ∷ fixed 1 n)) ≡ Ok (signed neg n)
unfolding read_height
height_bytes neg n j h =
    let bs : List ℕ = justified neg 5 (n / 10) ++ (46 ∷ fixed 1 n) in
    let y : tenths (unsigned (unblank bs)) ≡ Some n = ap tenths j.rest ∙ (tenths-shown j.digits (n / 10) n j.only j.some (omega (arith, j.few)) j.value ∙ ap Some (omega arith)) in
    ap (λ b. height_of b (tenths (unsigned (unblank bs)))) j.sign
    ∙ (ap (height_of neg) y ∙ cond-true _ _ _ (le-leb n (cond neg 99999 999999) h))

height-back : (z : ℤ) → negsuc 99998 ≤ℤ z → z ≤ℤ pos 999999 → read_height (height_text z) ≡ Ok z
height-back (pos n) a b = let l : n ≤ 999999 = omega (arith, ints, b) in height_bytes false n (justified-plain 5 (n / 10) (46 ∷ fixed 1 n) (omega arith) (omega arith)) l
height-back (negsuc n) a b = let l : suc n ≤ 99999 = omega (arith, ints, a) in height_bytes true (suc n) (justified_read true 3 (suc n / 10) (46 ∷ fixed 1 (suc n)) (omega arith)) l

height_ranged : (neg : Bool) (o : Option ℕ) → InRange (cond neg 99999 999999) neg (height_of neg o)
height_ranged neg None = tt
height_ranged neg (Some n) = cond_both (leb n (cond neg 99999 999999)) (Ok (signed neg n)) (Err NumberOutOfRange) (InRange (cond neg 99999 999999) neg) (λ t. record { size = n; few = leb-true n (cond neg 99999 999999) t; is = refl }) (λ _. tt)

height_range : (neg : Bool) (z : ℤ) → Ranged (cond neg 99999 999999) neg z → (negsuc 99998 ≤ℤ z) × (z ≤ℤ pos 999999)
height_range true z r = let x : z ≡ neg_ℤ (pos r.size) = r.is in let l : r.size ≤ 99999 = r.few in (omega (arith, ints, x, l), omega (arith, ints, x, l))
height_range false z r = let x : z ≡ pos r.size = r.is in let l : r.size ≤ 999999 = r.few in (omega (arith, ints, x, l), omega (arith, ints, x, l))

pub heights_come_back : HeightsComeBack
unfolding read_height
heights_come_back = (
  (λ bs z e. height_range (minus (unblank bs)) z (subst (InRange (cond (minus (unblank bs)) 99999 999999) (minus (unblank bs))) e (height_ranged (minus (unblank bs)) (tenths (unsigned (unblank bs)))))),
  height-back,
)
