-- The cases of `read_at`.
use Rattle.std.proofs.Common.{◌≡◌, ℕ, ◌+◌, ◌*◌, ◌^◌, ◌<◌, ◌≤◌, Bool, List, length, ℤ, pos, ◌+ℤ◌, ◌-ℤ◌, Some, Err, ap, ◌∙◌, arith}
use Rattle.decimals.proofs.Powers.{ten_pos}
use Rattle.decimals.proofs.Sizes.{size_is}
use Rattle.decimals.proofs.Scaling.{scaled_fits}
use Rattle.std.specs.Option.{option_map}
use Rattle.std.proofs.lemmas.Bool.{ne_eqb, le-leb, lt-leb, cond-true, cond-false}
use Rattle.decimals.specs.Number.{Digits, Said, said_by, said, exponent, number_of, read_at, fitted}
use Rattle.refusals.specs.declared.Fault.TheVariants.{WrongNumber}

pub read_at-long : (unit : ℕ) (bs : List ℕ) → 21 < length bs → read_at unit bs ≡ Err WrongNumber
unfolding read_at
read_at-long unit bs h = cond-false _ _ _ (lt-leb (length bs) 21 h)

pub read_at-said : (unit : ℕ) (bs : List ℕ) → length bs ≤ 21 → read_at unit bs ≡ number_of unit (said bs)
unfolding read_at
read_at-said unit bs h = cond-true _ _ _ (le-leb (length bs) 21 h)

pub said_by-some : (neg : Bool) (d : Digits) (e : ℤ) → (d.count ≡ 0 → ⊥) → exponent d.rest ≡ Some e → said_by neg d ≡ Some (record { negative = neg; value = d.value; power = e -ℤ pos d.places })
said_by-some neg d e n x = cond-false _ _ _ (ne_eqb d.count 0 n) ∙ ap (option_map (λ e. record { negative = neg; value = d.value; power = e -ℤ pos d.places })) x

-- reading a text at hand: v has d + 1 digits
pub read_by : (unit : ℕ) (bs : List ℕ) (s : Said) (d : ℕ) → length bs ≤ 21 → said bs ≡ Some s → 10 ^ d ≤ s.value → s.value < 10 ^ (d + 1) → read_at unit bs ≡ fitted s.negative (s.value * unit) (10 ^ (d + 1)) ((s.power +ℤ pos (d + 1)) -ℤ pos 1)
read_by unit bs s d h e l u =
    read_at-said unit bs h
    ∙ (ap (number_of unit) e
    ∙ (scaled_fits unit s (λ z. omega (arith, ten_pos d))
    ∙ ap (λ n. fitted s.negative (s.value * unit) (10 ^ n) ((s.power +ℤ pos n) -ℤ pos 1)) (size_is s.value d l u)))
