-- The form of a number's text, part by part.
use Rattle.std.specs.Prelude.{◌≡◌, ℕ, ◌+◌, ◌≤◌, true, ◌⊎◌, List, [], ◌∷◌, ◌++◌, length, replicate, pos, ◌-ℤ◌, Some, Err, ◌≢◌}
use Rattle.refusals.specs.declared.Fault.TheVariants.{WrongNumber}
use Rattle.decimals.specs.Scan.{is_digit, digits_from, minus}
use Rattle.decimals.specs.Number.{Said, said, signed, read_number, read_deviation}

abbrev pub OnlyDigits : List ℕ → Type 0
OnlyDigits [] = Unit {0}
OnlyDigits (c ∷ cs) = (is_digit c ≡ true) × OnlyDigits cs

-- +, - or nothing
abbrev pub Sign : List ℕ → Type 0
Sign t = (t ≡ []) ⊎ ((t ≡ 43 ∷ []) ⊎ (t ≡ 45 ∷ []))

-- the parts of a number's text
pub record Parts : Type 0 where
  -- how many blanks there are in front
  pub before : ℕ
  pub sign : List ℕ
  -- the digits before and after the point, and the point, if there is one
  pub whole : List ℕ
  pub point : List ℕ
  pub fraction : List ℕ
  -- the letter E or e, the sign of the power and its digits
  pub letter : List ℕ
  pub power_sign : List ℕ
  pub power : List ℕ
  -- how many blanks follow
  pub after : ℕ

-- digits with at most one point and at least one digit
pub record Mantissa (p : Parts) : Type 0 where
  pub whole : OnlyDigits p.whole
  pub fraction : OnlyDigits p.fraction
  pub point : (p.point ≡ 46 ∷ []) ⊎ ((p.point ≡ []) × (p.fraction ≡ []))
  pub some : 1 ≤ length p.whole + length p.fraction

-- E or e, a sign or none, and one or two digits
pub record Power (p : Parts) : Type 0 where
  pub letter : (p.letter ≡ 69 ∷ []) ⊎ (p.letter ≡ 101 ∷ [])
  pub sign : Sign p.power_sign
  pub digits : OnlyDigits p.power
  pub some : 1 ≤ length p.power
  pub few : length p.power ≤ 2

abbrev pub NoPower : Parts → Type 0
NoPower p = (p.letter ≡ []) × (p.power_sign ≡ []) × (p.power ≡ [])

-- parts that a number's text may have
pub record WellFormed (p : Parts) : Type 0 where
  pub sign : Sign p.sign
  pub mantissa : Mantissa p
  pub exponent : Power p ⊎ NoPower p

-- the text that the parts make
abbrev pub spelled : Parts → List ℕ
spelled p = replicate p.before 32 ++ (p.sign ++ (p.whole ++ (p.point ++ (p.fraction ++ (p.letter ++ (p.power_sign ++ (p.power ++ replicate p.after 32)))))))

-- what they mean: the digits as one number, times ten to the power less the digits after the point
abbrev pub meant : Parts → Said
meant p = record {
  negative = minus p.sign;
  value = digits_from 0 (p.whole ++ p.fraction);
  power = signed (minus p.power_sign) (digits_from 0 p.power) -ℤ pos (length p.fraction);
}

-- a text of well-formed parts says what they mean, and no other text says anything
abbrev pub NumbersHaveForm : Type 0
NumbersHaveForm = ((p : Parts) → WellFormed p → said (spelled p) ≡ Some (meant p))
    × ((bs : List ℕ) (s : Said) → said bs ≡ Some s → (p : Parts) × WellFormed p × (spelled p ≡ bs))

-- no well-formed parts make the text
abbrev pub Formless : List ℕ → Type 0
Formless bs = (p : Parts) → WellFormed p → spelled p ≢ bs

-- a field of at most 21 bytes has the wrong form exactly where no well-formed parts make it
abbrev pub WrongExactly : Type 0
WrongExactly = (bs : List ℕ) → length bs ≤ 21
    → ((read_number bs ≡ Err WrongNumber → Formless bs) × (Formless bs → read_number bs ≡ Err WrongNumber))
    × ((read_deviation bs ≡ Err WrongNumber → Formless bs) × (Formless bs → read_deviation bs ≡ Err WrongNumber))
