-- The data lines of a block, with their numbers.
use Rattle.std.specs.Prelude.{◌≡◌, ℕ, ◌+◌, ◌-◌, Bool, true, cond, ◌&&◌, List, [], ◌∷◌, length, drop, Some, None, Option, nat_le}
use Rattle.frame.specs.Lines.{lines, fits, line_of, kind_of, passed}
use Rattle.frame.specs.declared.data.DataLine.{DataLine}
use Rattle.frame.specs.declared.line.LineKind.{LineKind}
use Rattle.frame.specs.declared.line.LineKind.TheVariants.{Bound, Comment, Title, End, Data}
use Rattle.frame.specs.declared.place.Place.{Place}

-- what a step of the walk found, and where it then stands
pub record Walked : Type 0 where
  pub found : Option DataLine
  pub place : Place

abbrev pub stay : Place → Walked
stay p = record { found = None; place = p }

-- a data line is found, a comment is passed over, and any other line is in the way
abbrev pub walk_by : Option LineKind → Walked → Walked → Walked → Walked
walk_by None found over stop = stop
walk_by (Some Bound) found over stop = stop
walk_by (Some Comment) found over stop = over
walk_by (Some Title) found over stop = stop
walk_by (Some End) found over stop = stop
walk_by (Some Data) found over stop = found

-- the next data line among the lines from a place on
unfoldable pub walked : Place → List (List ℕ) → Walked
walked p [] = stay p
walked p (l ∷ ls) =
    cond (fits l)
    (walk_by (kind_of (line_of l)) (record { found = Some (record { number = p.line; line = line_of l }); place = passed p (length l) }) (walked (passed p (length l)) ls) (stay p))
    (stay p)

-- a place at which a line of a source that is not too long may begin
abbrev pub walkable : List ℕ → Place → Bool
walkable cs p = nat_le (length cs) 100000000 && nat_le (p.line - 1) p.byte

abbrev pub walked_from : List ℕ → Place → Walked
walked_from cs p = cond (walkable cs p) (walked p (lines (drop p.byte cs))) (stay p)

abbrev pub data_by : Option LineKind → DataLine → List DataLine → List DataLine
data_by None x xs = []
data_by (Some Bound) x xs = []
data_by (Some Comment) x xs = xs
data_by (Some Title) x xs = []
data_by (Some End) x xs = []
data_by (Some Data) x xs = x ∷ xs

-- the data lines up to the first line that is neither data nor comment; n is the number of the first line
unfoldable pub data_from : ℕ → List (List ℕ) → List DataLine
data_from n [] = []
data_from n (l ∷ ls) = cond (fits l) (data_by (kind_of (line_of l)) (record { number = n; line = line_of l }) (data_from (n + 1) ls)) []

-- the data lines that a walk from a place yields
abbrev pub data_at : List ℕ → Place → List DataLine
data_at cs p = data_from p.line (lines (drop p.byte cs))

abbrev pub before : {X : Type 0} → Option X → List X → List X
before None xs = []
before (Some x) xs = x ∷ xs

-- a step takes the first of the data lines that are left
pub record Yields (cs : List ℕ) (p : Place) (r : Option DataLine) (q : Place) : Type 0 where
  pub first : walkable cs p ≡ true → data_at cs p ≡ before r (data_at cs q)
  pub on : walkable cs p ≡ true → walkable cs q ≡ true
