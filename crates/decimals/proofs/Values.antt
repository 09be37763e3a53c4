-- A number read has the value that its text says, and a number is fixed by its value.
use Rattle.std.proofs.Common.{◌≡◌, ℕ, ◌+◌, ◌*◌, ◌/◌, ◌%◌, ◌^◌, ◌<◌, ◌≤◌, Bool, false, ◌&&◌, eqb, ◌⊎◌, ℤ, pos, negsuc, ◌+ℤ◌, ◌-ℤ◌, nat_abs, ◌≤ℤ◌, Ok, Err, sym, refl, ap, ◌∙◌, subst, inl, inr, ⊎_elim, div-add-mod', arith}
use lib.Signed.{le_z, lt_z}
use native.Mathlib.Nat.{mul-mod_left}
use Rattle.std.proofs.lemmas.Bool.{cases_Bool, cases_eq, cond-true, cond-false, and_parts, eqb-true}
use Rattle.std.proofs.lemmas.Int.{ints}
use Rattle.decimals.specs.Number.{Said, scaled, fitted, in_range, size, zero_number}
use Rattle.decimals.specs.Write.{Canonical}
use Rattle.decimals.specs.Value.{units, worth, SameValue}
use Rattle.decimals.specs.declared.number.Number.{Number}
use Rattle.refusals.specs.declared.Fault.TheVariants.{NumberOutOfRange}
use Rattle.decimals.proofs.Powers.{ten_pos}
use Rattle.decimals.proofs.Sizes.{size_is, size_above}
use Rattle.decimals.proofs.Scaling.{scaled_zero, scaled_fits, top_of, fitted_yes}
use Rattle.decimals.proofs.Tens.{ten_add, cancel, cancel_le, cancel_lt, size_reaches, sizes_add, bound_lo, bound_hi, times_pos}

pub record Fitted (neg : Bool) (a b : ℕ) (q : ℤ) (n : Number) : Type 0 where
  pub whole : a % b ≡ 0
  pub low : negsuc 98 ≤ℤ q
  pub high : q ≤ℤ pos 99
  pub is : n ≡ record { negative = neg; mantissa = a / b; exponent = q }

pub fitted-back : (neg : Bool) (a b : ℕ) (q : ℤ) (n : Number) → fitted neg a b q ≡ Ok n → Fitted neg a b q n
fitted-back neg a b q n e =
    ⊎_elim
    (λ t.
    let p = and_parts (eqb (a % b) 0) (in_range q) t in
    let r = and_parts (le_z (negsuc 98) q) (le_z q (pos 99)) p.1 in
    let f : fitted neg a b q ≡ Ok (record { negative = neg; mantissa = a / b; exponent = q }) = cond-true _ _ _ t in
    record { whole = eqb-true (a % b) 0 p.0; low = grind (arith, ints); high = grind (arith, ints); is = cc })
    (λ f.
    let g : fitted neg a b q ≡ Err NumberOutOfRange = cond-false _ _ _ f in
    let z : ◌≡◌ {A = ℕ} 0 1 = cc in absurd (omega arith))
    (cases_Bool (eqb (a % b) 0 && in_range q))

pub shift : (v m d k a b : ℕ) → m * 10 ^ d ≡ v * 10 ^ (k + 1) → b + (k + 1) ≡ a + d → v * 10 ^ a ≡ m * 10 ^ b
shift v m d k a b e s =
    let x : b + (k + 1) ≡ (k + 1) + b = omega arith in
    let y : d + b ≡ b + d = omega arith in
    cancel (v * 10 ^ a) (m * 10 ^ b) d
    (sym (ten_add v a d) ∙ (ap (λ n. v * 10 ^ n) (sym s ∙ x) ∙ (ten_add v (k + 1) b ∙ (ap (λ n. n * 10 ^ b) (sym e) ∙ (sym (ten_add m d b) ∙ (ap (λ n. m * 10 ^ n) y ∙ ten_add m b d))))))

pub shift_back : (v m d k a b : ℕ) → v * 10 ^ a ≡ m * 10 ^ b → b + (k + 1) ≡ a + d → m * 10 ^ d ≡ v * 10 ^ (k + 1)
shift_back v m d k a b e s =
    let x : (k + 1) + b ≡ b + (k + 1) = omega arith in
    let y : d + b ≡ b + d = omega arith in
    cancel (m * 10 ^ d) (v * 10 ^ (k + 1)) b
    (sym (ten_add m d b) ∙ (ap (λ n. m * 10 ^ n) y ∙ (ten_add m b d ∙ (ap (λ n. n * 10 ^ d) (sym e) ∙ (sym (ten_add v a d) ∙ (ap (λ n. v * 10 ^ n) (sym s ∙ sym x) ∙ ten_add v (k + 1) b))))))

pub nat_abs_is : (z : ℤ) → pos 0 ≤ℤ z → pos (nat_abs z) ≡ z
nat_abs_is (pos n) h = refl
nat_abs_is (negsuc n) h = absurd (grind (arith, ints))

-- the places that a value and a number add, in units
places-add : (k d : ℕ) (p : ℤ) → k ≤ 14 → negsuc 199 ≤ℤ p → negsuc 98 ≤ℤ ((p +ℤ pos d) -ℤ pos 1) → nat_abs ((((p +ℤ pos d) -ℤ pos 1) -ℤ pos k) +ℤ pos 200) + (k + 1) ≡ nat_abs (p +ℤ pos 200) + d
places-add k d p h l r =
    let a = nat_abs_is (p +ℤ pos 200) (omega (arith, ints)) in
    let b = nat_abs_is ((((p +ℤ pos d) -ℤ pos 1) -ℤ pos k) +ℤ pos 200) (omega (arith, ints)) in
    omega (arith, ints)

pub record Read (k : ℕ) (s : Said) (n : Number) : Type 0 where
  pub value : units s.value s.power ≡ worth k n
  pub held : Canonical k n
  pub sign : ((s.value ≡ 0) × (n ≡ zero_number)) ⊎ ((0 < s.value) × (n.negative ≡ s.negative))

zero_times : (e : ℤ) → units 0 e ≡ 0
zero_times e = omega arith

read_zero : (k : ℕ) (s : Said) (n : Number) → s.value ≡ 0 → scaled (10 ^ (k + 1)) s ≡ Ok n → Read k s n
read_zero k s n z e =
    let y = scaled_zero (10 ^ (k + 1)) s z in
    let w : n ≡ zero_number = cc in
    record {
      value = ap (λ v. units v s.power) z ∙ (zero_times s.power ∙ (sym (zero_times (pos 0 -ℤ pos k)) ∙ ap (worth k) (sym w)));
      held = inl w;
      sign = inl (z, w);
    }

read_some : (k : ℕ) (s : Said) (n : Number) → k ≤ 14 → negsuc 199 ≤ℤ s.power → 0 < s.value → scaled (10 ^ (k + 1)) s ≡ Ok n → Read k s n
read_some k s n h l p e =
    let v = s.value in
    let d = size v in
    let f = fitted-back s.negative (v * 10 ^ (k + 1)) (10 ^ d) (top_of s) n (sym (scaled_fits (10 ^ (k + 1)) s (λ z. omega arith)) ∙ e) in
    let m : ℕ = v * 10 ^ (k + 1) / 10 ^ d in
    let exact : m * 10 ^ d ≡ v * 10 ^ (k + 1) = omega (arith, div-add-mod' (v * 10 ^ (k + 1)) (10 ^ d), f.whole) in
    let r = size_reaches v p in
    let lo : 10 ^ k * 10 ^ d ≤ m * 10 ^ d = subst (λ x. 10 ^ k * 10 ^ d ≤ x) (sym exact) (bound_lo v k r.0 d r.1 r.2) in
    let hi : m * 10 ^ d < 10 ^ (k + 1) * 10 ^ d = subst (λ x. x < 10 ^ (k + 1) * 10 ^ d) (sym exact) (bound_hi v k d (size_above v)) in
    record {
      value = shift v m d k (nat_abs (s.power +ℤ pos 200)) (nat_abs ((top_of s -ℤ pos k) +ℤ pos 200)) exact (places-add k d s.power h l f.low) ∙ ap (worth k) (sym f.is);
      held = inr (subst (λ x. (10 ^ k ≤ x.mantissa) × (x.mantissa < 10 ^ (k + 1)) × (negsuc 98 ≤ℤ x.exponent) × (x.exponent ≤ℤ pos 99)) (sym f.is) (cancel_le (10 ^ k) m d lo, cancel_lt m (10 ^ (k + 1)) d hi, f.low, f.high));
      sign = inr (p, ap (λ x. x.negative) f.is);
    }

pub read_value : (k : ℕ) (s : Said) (n : Number) → k ≤ 14 → negsuc 199 ≤ℤ s.power → scaled (10 ^ (k + 1)) s ≡ Ok n → Read k s n
read_value k s n h l e = ⊎_elim (λ z. read_zero k s n z e) (λ z. read_some k s n h l (omega arith) e) (cases_eq s.value 0)

-- the same places in units are the same exponent
same-exponent : (k : ℕ) (p q : ℤ) → k ≤ 14 → negsuc 98 ≤ℤ p → negsuc 98 ≤ℤ q → nat_abs ((p -ℤ pos k) +ℤ pos 200) ≡ nat_abs ((q -ℤ pos k) +ℤ pos 200) → p ≡ q
same-exponent k p q h a b e =
    let x = nat_abs_is ((p -ℤ pos k) +ℤ pos 200) (omega (arith, ints)) in
    let y = nat_abs_is ((q -ℤ pos k) +ℤ pos 200) (omega (arith, ints)) in
    omega (arith, ints)

-- a number that is held is zero exactly where its value is
pub worth_zero : (k : ℕ) (n : Number) → Canonical k n → worth k n ≡ 0 → n ≡ zero_number
worth_zero k n (inl z) e = z
worth_zero k n (inr w) e = absurd (omega (arith, times_pos n.mantissa (nat_abs ((n.exponent -ℤ pos k) +ℤ pos 200)) (omega (arith, ten_pos k, w.0))))

zero_worth : (k : ℕ) (n : Number) → n ≡ zero_number → worth k n ≡ 0
zero_worth k n z = ap (worth k) z ∙ zero_times (pos 0 -ℤ pos k)

pub unique : (k : ℕ) (m n : Number) → k ≤ 14 → Canonical k m → Canonical k n → worth k m ≡ worth k n → (m.mantissa ≡ n.mantissa) × (m.exponent ≡ n.exponent)
unique k m n h (inl z) c e =
    let y = worth_zero k n c (sym e ∙ zero_worth k m z) in
    (ap (λ x. x.mantissa) (z ∙ sym y), ap (λ x. x.exponent) (z ∙ sym y))
unique k m n h (inr w) (inl z) e =
    let y = worth_zero k m (inr w) (e ∙ zero_worth k n z) in
    (ap (λ x. x.mantissa) (y ∙ sym z), ap (λ x. x.exponent) (y ∙ sym z))
unique k m n h (inr v) (inr w) e =
    let a : ℕ = nat_abs ((m.exponent -ℤ pos k) +ℤ pos 200) in
    let b : ℕ = nat_abs ((n.exponent -ℤ pos k) +ℤ pos 200) in
    let s = sizes_add m.mantissa a n.mantissa b (omega (arith, ten_pos k, v.0)) (omega (arith, ten_pos k, w.0)) e in
    let x : a ≡ b = omega (arith, s, size_is m.mantissa k v.0 v.1, size_is n.mantissa k w.0 w.1) in
    (cancel m.mantissa n.mantissa b (ap (λ i. m.mantissa * 10 ^ i) (sym x) ∙ e), same-exponent k m.exponent n.exponent h v.2 w.2 x)

same_number : (m n : Number) → m.negative ≡ n.negative → m.mantissa ≡ n.mantissa → m.exponent ≡ n.exponent → m ≡ n
same_number m n a b c = ap (λ x. record { negative = x; mantissa = m.mantissa; exponent = m.exponent }) a ∙ (ap (λ x. record { negative = n.negative; mantissa = x; exponent = m.exponent }) b ∙ ap (λ x. record { negative = n.negative; mantissa = n.mantissa; exponent = x }) c)

-- two readings are equal exactly where the values are
pub same_from_values : (k : ℕ) (s t : Said) (m n : Number) → k ≤ 14 → Read k s m → Read k t n → SameValue s t → m ≡ n
same_from_values k s t m n h r q e =
    let w : worth k m ≡ worth k n = sym r.value ∙ (e.0 ∙ q.value) in
    let u = unique k m n h r.held q.held w in
    ⊎_elim
    (λ z. let y = worth_zero k n q.held (sym w ∙ zero_worth k m z.1) in z.1 ∙ sym y)
    (λ x. ⊎_elim
    (λ z. let y = worth_zero k m r.held (w ∙ zero_worth k n z.1) in y ∙ sym z.1)
    (λ y. same_number m n (x.1 ∙ (⊎_elim (λ g. g) (λ z. absurd (omega (arith, z, x.0))) e.1 ∙ sym y.1)) u.0 u.1)
    q.sign)
    r.sign

pub values_from_same : (k : ℕ) (s t : Said) (m n : Number) → Read k s m → Read k t n → m ≡ n → SameValue s t
values_from_same k s t m n r q e = (
  r.value ∙ (ap (worth k) e ∙ sym q.value),
  ⊎_elim (λ z. inr z.0)
      (λ x. ⊎_elim
      (λ z. absurd (omega (arith, times_pos s.value (nat_abs (s.power +ℤ pos 200)) x.0, r.value, zero_worth k m (e ∙ z.1))))
      (λ y. inl (sym x.1 ∙ (ap (λ n. n.negative) e ∙ y.1)))
      q.sign)
      r.sign,
)

-- a value that a number has is read
top_is_exponent : (k d : ℕ) (p q : ℤ) → k ≤ 14 → negsuc 199 ≤ℤ p → negsuc 98 ≤ℤ q → d + nat_abs (p +ℤ pos 200) ≡ (k + 1) + nat_abs ((q -ℤ pos k) +ℤ pos 200) → (p +ℤ pos d) -ℤ pos 1 ≡ q
top_is_exponent k d p q h a b e =
    let x = nat_abs_is (p +ℤ pos 200) (omega (arith, ints)) in
    let y = nat_abs_is ((q -ℤ pos k) +ℤ pos 200) (omega (arith, ints)) in
    omega (arith, ints)

pub value_read : (k : ℕ) (s : Said) (n : Number) → k ≤ 14 → negsuc 199 ≤ℤ s.power → Canonical k n → units s.value s.power ≡ worth k n → (m : Number) × (scaled (10 ^ (k + 1)) s ≡ Ok m)
value_read k s n h l (inl z) e =
    let v0 : s.value ≡ 0 = ⊎_elim (λ x. x) (λ x. absurd (omega (arith, times_pos s.value (nat_abs (s.power +ℤ pos 200)) (omega arith), zero_worth k n z))) (cases_eq s.value 0) in
    (zero_number, scaled_zero (10 ^ (k + 1)) s v0)
value_read k s n h l (inr w) e =
    let v = s.value in
    let d = size v in
    let a : ℕ = nat_abs (s.power +ℤ pos 200) in
    let b : ℕ = nat_abs ((n.exponent -ℤ pos k) +ℤ pos 200) in
    let np = times_pos n.mantissa b (omega (arith, ten_pos k, w.0)) in
    let nz : v ≡ 0 → ⊥ = λ z. omega (arith, np, e, ap (λ x. x * 10 ^ a) z) in
    let sz : size v + a ≡ size n.mantissa + b = sizes_add v a n.mantissa b (omega arith) (omega (arith, ten_pos k, w.0)) e in
    let sm = size_is n.mantissa k w.0 w.1 in
    let x : d + a ≡ (k + 1) + b = omega arith in
    let y : b + (k + 1) ≡ a + d = omega arith in
    let t : top_of s ≡ n.exponent = top_is_exponent k d s.power n.exponent h l w.2 x in
    let g : n.mantissa * 10 ^ d ≡ v * 10 ^ (k + 1) = shift_back v n.mantissa d k a b e y in
    let whole : (v * 10 ^ (k + 1)) % 10 ^ d ≡ 0 = ap (λ x. x % 10 ^ d) (sym g) ∙ mul-mod_left n.mantissa (10 ^ d) in
    let lo : lt_z n.exponent (negsuc 98) ≡ false = grind (arith, ints) in
    let hi : lt_z (pos 99) n.exponent ≡ false = grind (arith, ints) in (
      record { negative = s.negative; mantissa = v * 10 ^ (k + 1) / 10 ^ d; exponent = top_of s },
      scaled_fits (10 ^ (k + 1)) s nz ∙ fitted_yes s.negative (v * 10 ^ (k + 1)) (10 ^ d) (top_of s) whole (subst (λ q. lt_z q (negsuc 98) ≡ false) (sym t) lo) (subst (λ q. lt_z (pos 99) q ≡ false) (sym t) hi),
    )
