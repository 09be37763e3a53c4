-- Decimal numbers: what a text says, and the number that it stands for.
use Rattle.std.specs.Prelude.{ℕ, ◌+◌, ◌*◌, ◌/◌, ◌%◌, ◌^◌, Bool, true, false, cond, ◌&&◌, ◌||◌, List, [], ◌∷◌, length, ℤ, pos, negsuc, ◌+ℤ◌, ◌-ℤ◌, neg_ℤ, Some, None, Ok, Err, Option, Result, ◌==◌, int_le, nat_le}
use Rattle.std.specs.Option.{option_map}
use Rattle.std.specs.Int.Digits.{digits_of}
use Rattle.decimals.specs.Scan.{unblank, minus, unsigned, digits_from, count, past}
use Rattle.decimals.specs.declared.number.Number.{Number}
use Rattle.decimals.specs.declared.number.Deviation.{Deviation}
use Rattle.refusals.specs.declared.Fault.{Fault}
use Rattle.refusals.specs.declared.Fault.TheVariants.{WrongNumber, NumberOutOfRange}

-- digits with at most one point: the number without the point, how many digits, how many of them after the point, and what follows
pub record Digits : Type 0 where
  pub value : ℕ
  pub count : ℕ
  pub places : ℕ
  pub rest : List ℕ

-- what follows the digits before a point, which say v and are n
abbrev pub after_whole : ℕ → ℕ → List ℕ → Digits
after_whole v n [] = record { value = v; count = n; places = 0; rest = [] }
after_whole v n (c ∷ cs) = cond (c == 46)
    (record { value = digits_from v cs; count = n + count cs; places = count cs; rest = past cs })
    (record { value = v; count = n; places = 0; rest = c ∷ cs })

abbrev pub digits_of_text : List ℕ → Digits
digits_of_text t = after_whole (digits_from 0 t) (count t) (past t)

abbrev pub is_empty : List ℕ → Bool
is_empty [] = true
is_empty (c ∷ cs) = false

-- blanks alone
abbrev pub blank : List ℕ → Bool
blank t = is_empty (unblank t)

abbrev pub signed : Bool → ℕ → ℤ
signed neg n = cond neg (neg_ℤ (pos n)) (pos n)

-- what follows the letter E: a sign or none, one or two digits, blanks
abbrev pub exponent_digits : Bool → List ℕ → Option ℤ
exponent_digits neg t = cond (nat_le 1 (count t) && nat_le (count t) 2 && blank (past t)) (Some (signed neg (digits_from 0 t))) None

-- an exponent or none, and blanks to the end
abbrev pub exponent : List ℕ → Option ℤ
exponent [] = Some (pos 0)
exponent (c ∷ cs) = cond (c == 69 || c == 101) (exponent_digits (minus cs) (unsigned cs)) (cond (blank (c ∷ cs)) (Some (pos 0)) None)

-- a text says ± value × 10 ^ power
pub record Said : Type 0 where
  pub negative : Bool
  pub value : ℕ
  pub power : ℤ

abbrev pub said_by : Bool → Digits → Option Said
said_by neg d = cond (d.count == 0) None (option_map (λ e. record { negative = neg; value = d.value; power = e -ℤ pos d.places }) (exponent d.rest))

-- blanks, a sign or none, digits, an exponent or none, blanks; or another form
abbrev pub said : List ℕ → Option Said
said bs = said_by (minus (unblank bs)) (digits_of_text (unsigned (unblank bs)))

-- how many digits v has
abbrev pub size : ℕ → ℕ
size v = length (digits_of 10 v)

abbrev pub zero_number : Number
zero_number = record { negative = false; mantissa = 0; exponent = pos 0 }

abbrev pub in_range : ℤ → Bool
in_range q = int_le (negsuc 98) q && int_le q (pos 99)

abbrev pub fitted : Bool → ℕ → ℕ → ℤ → Result Number Fault
fitted neg a b q = cond (a % b == 0 && in_range q) (Ok (record { negative = neg; mantissa = a / b; exponent = q })) (Err NumberOutOfRange)

-- the number of k digits, unit = 10 ^ k, that is ± value × 10 ^ power
unfoldable pub scaled : ℕ → Said → Result Number Fault
scaled unit s = cond (s.value == 0) (Ok zero_number)
    (fitted s.negative (s.value * unit) (10 ^ size s.value) ((s.power +ℤ pos (size s.value)) -ℤ pos 1))

abbrev pub number_of : ℕ → Option Said → Result Number Fault
number_of unit None = Err WrongNumber
number_of unit (Some s) = scaled unit s

unfoldable pub read_at : ℕ → List ℕ → Result Number Fault
read_at unit bs = cond (nat_le (length bs) 21) (number_of unit (said bs)) (Err WrongNumber)

abbrev pub read_number : List ℕ → Result Number Fault
read_number bs = read_at (10 ^ 15) bs

-- a deviation is never below zero
abbrev pub deviation_of : Result Number Fault → Result Deviation Fault
deviation_of (Ok n) = cond n.negative (Err NumberOutOfRange) (Ok (record { mantissa = n.mantissa; exponent = n.exponent }))
deviation_of (Err e) = Err e

abbrev pub read_deviation : List ℕ → Result Deviation Fault
read_deviation bs = deviation_of (read_at (10 ^ 6) bs)
