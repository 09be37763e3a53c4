-- The lines of a content: byte 10 ends a line, and the last may lack it.
use Rattle.std.specs.Prelude.{ℕ, ◌+◌, ◌-◌, Bool, true, false, cond, ◌&&◌, List, [], ◌∷◌, ◌++◌, length, replicate, Some, None, Ok, Err, Option, Result, ◌==◌, nat_le, slice_index}
use Rattle.frame.specs.declared.line.Line.{Line}
use Rattle.frame.specs.declared.line.LineKind.{LineKind}
use Rattle.frame.specs.declared.line.LineKind.TheVariants.{Bound, Comment, Title, End, Data}
use Rattle.frame.specs.declared.place.Place.{Place}
use Rattle.refusals.specs.declared.Fault.{Fault}
use Rattle.refusals.specs.declared.Fault.TheVariants.{UnfitLine}

-- one more byte at the front of the first line
abbrev pub glue : ℕ → List (List ℕ) → List (List ℕ)
glue c [] = (c ∷ []) ∷ []
glue c (l ∷ ls) = (c ∷ l) ∷ ls

abbrev pub lines : List ℕ → List (List ℕ)
lines [] = []
lines (c ∷ cs) = cond (c == 10) ([] ∷ lines cs) (glue c (lines cs))

-- the first line of a content that is not empty
abbrev pub first_line : List ℕ → List ℕ
first_line [] = []
first_line (c ∷ cs) = cond (c == 10) [] (c ∷ first_line cs)

abbrev pub printable : ℕ → Bool
printable b = nat_le 32 b && nat_le b 126

abbrev pub all_printable : List ℕ → Bool
all_printable [] = true
all_printable (b ∷ bs) = printable b && all_printable bs

-- a line of at most 80 printable bytes
abbrev pub fits : List ℕ → Bool
fits l = nat_le (length l) 80 && all_printable l

-- n places, those past the list blank
abbrev pub padded : {X : Type 0} → X → ℕ → List X → List X
padded blank n xs = xs ++ replicate (n - length xs) blank

-- the 80 columns of a line
abbrev pub line_of : List ℕ → Line
line_of l = record { columns = padded 32 80 l; len = length l }

-- what is read where this is left of the content: no line at its end, else the first of the lines, which has to fit
abbrev pub fetched : List ℕ → Result (Option Line) Fault
fetched [] = Ok None
fetched (c ∷ cs) = cond (fits (first_line (c ∷ cs))) (Ok (Some (line_of (first_line (c ∷ cs))))) (Err UnfitLine)

-- '%', '*', '+', '-' and ' '
abbrev pub kind_by : ℕ → Option LineKind
kind_by c =
    cond (c == 37) (Some Bound)
    (cond (c == 42) (Some Comment) (cond (c == 43) (Some Title) (cond (c == 45) (Some End) (cond (c == 32) (Some Data) None))))

-- the kind of a line, by its first character
unfoldable pub kind_of : Line → Option LineKind
kind_of ln = cond (ln.len == 0) None (kind_by (slice_index ln.columns 0))

-- the place after a line of n bytes and its end
abbrev pub passed : Place → ℕ → Place
passed p n = record { byte = p.byte + n + 1; line = p.line + 1 }

abbrev pub is_nil : {A : Type 0} → List A → Bool
is_nil [] = true
is_nil (x ∷ xs) = false
