-- Texts, and columns that have to be blank.
use Rattle.std.specs.Prelude.{◌≡◌, ℕ, ◌+◌, ◌-◌, ◌≤◌, cond, ◌&&◌, List, [], ◌∷◌, ◌++◌, length, take, replicate, Ok, Err, Result, ◌==◌, ◌≢◌, nat_le}
use Rattle.decimals.specs.Scan.{unblank}
use Rattle.decimals.specs.Number.{blank}
use Rattle.refusals.specs.declared.Fault.{Fault}
use Rattle.refusals.specs.declared.Fault.TheVariants.{WrongText}

-- the bytes up to the first blank
abbrev pub word : List ℕ → List ℕ
word [] = []
word (c ∷ cs) = cond (c == 32) [] (c ∷ word cs)

-- and what follows them
abbrev pub after_word : List ℕ → List ℕ
after_word [] = []
after_word (c ∷ cs) = cond (c == 32) (c ∷ cs) (after_word cs)

-- a text on the left of n bytes, then blanks
abbrev pub padded : ℕ → List ℕ → List ℕ
padded n w = w ++ replicate (n - length w) 32

-- one word among blanks, kept on the left of n bytes
abbrev pub read_text : ℕ → List ℕ → Result (List ℕ) Fault
read_text n bs = cond (nat_le 1 (length (word (unblank bs))) && (nat_le (length (word (unblank bs))) n && blank (after_word (unblank bs))))
    (Ok (padded n (word (unblank bs)))) (Err WrongText)

-- how many bytes there are up to the last that is not blank
abbrev pub filled : List ℕ → ℕ
filled [] = 0
filled (c ∷ cs) = cond (blank (c ∷ cs)) 0 (1 + filled cs)

-- without the blanks at both ends
abbrev pub trimmed : List ℕ → List ℕ
trimmed bs = take (filled (unblank bs)) (unblank bs)

-- a description, kept on the left of n bytes
abbrev pub read_description : ℕ → List ℕ → Result (List ℕ) Fault
read_description n bs = cond (nat_le (filled (unblank bs)) n) (Ok (padded n (trimmed bs))) (Err WrongText)

abbrev pub check_blank : List ℕ → Result (Unit {0}) Fault
check_blank bs = cond (blank bs) (Ok tt) (Err WrongText)

-- no byte is blank
abbrev pub Solid : List ℕ → Type 0
Solid [] = Unit {0}
Solid (c ∷ cs) = (c ≢ 32) × Solid cs

-- one word of at most n bytes
pub record Word (n : ℕ) (w : List ℕ) : Type 0 where
  pub solid : Solid w
  pub some : 1 ≤ length w
  pub fits : length w ≤ n

-- a text is one word among blanks, and kept as that word and blanks up to n bytes
abbrev pub TextsHaveForm : Type 0
TextsHaveForm = ((a b n : ℕ) (w : List ℕ) → Word n w → read_text n (replicate a 32 ++ (w ++ replicate b 32)) ≡ Ok (padded n w))
    × ((n : ℕ) (bs t : List ℕ) → read_text n bs ≡ Ok t → (w : List ℕ) × Word n w × (t ≡ padded n w) × ((a : ℕ) × (b : ℕ) × (bs ≡ replicate a 32 ++ (w ++ replicate b 32))))

-- what is kept of a text has n bytes, and is read as it was
abbrev pub TextsComeBack : Type 0
TextsComeBack = (n : ℕ) (bs t : List ℕ) → read_text n bs ≡ Ok t → (length t ≡ n) × (read_text n t ≡ Ok t)

-- no blank is at either end
abbrev pub Begun : List ℕ → Type 0
Begun [] = Unit {0}
Begun (c ∷ cs) = c ≡ 32 → ⊥

abbrev pub Ended : List ℕ → Type 0
Ended [] = Unit {0}
Ended (c ∷ []) = c ≡ 32 → ⊥
Ended (c ∷ (d ∷ ds)) = Ended (d ∷ ds)

pub record Phrase (n : ℕ) (w : List ℕ) : Type 0 where
  pub begun : Begun w
  pub ended : Ended w
  pub fits : length w ≤ n

-- a description is anything among blanks
abbrev pub DescriptionsHaveForm : Type 0
DescriptionsHaveForm = ((a b n : ℕ) (w : List ℕ) → Phrase n w → read_description n (replicate a 32 ++ (w ++ replicate b 32)) ≡ Ok (padded n w))
    × ((n : ℕ) (bs t : List ℕ) → read_description n bs ≡ Ok t → (w : List ℕ) × Phrase n w × (t ≡ padded n w) × ((a : ℕ) × (b : ℕ) × (bs ≡ replicate a 32 ++ (w ++ replicate b 32))))

abbrev pub DescriptionsComeBack : Type 0
DescriptionsComeBack = (n : ℕ) (bs t : List ℕ) → read_description n bs ≡ Ok t → (length t ≡ n) × (read_description n t ≡ Ok t)
