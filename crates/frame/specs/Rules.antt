-- The frame of a file in the subject's words: a header line, then comments and blocks, then the footer.
use Rattle.std.specs.Prelude.{◌≡◌, ℕ, ◌+◌, ◌≤◌, true, false, ◌⊎◌, List, [], ◌∷◌, ◌++◌, map, length, Some, None, Option}
use Rattle.frame.specs.DataLines.{data_at}
use Rattle.frame.specs.Blocks.{frame_as}
use Rattle.frame.specs.Frames.{all_taken, first_place, footer, has_title, is_header}
use Rattle.frame.specs.Headings.{caption_of, heading_of, is_text}
use Rattle.frame.specs.Lines.{fits, kind_of, line_of, lines, passed}
use Rattle.frame.specs.declared.data.DataLine.{DataLine}
use Rattle.frame.specs.declared.heading.Caption.{Caption}
use Rattle.frame.specs.declared.line.LineKind.{LineKind}
use Rattle.frame.specs.declared.line.LineKind.TheVariants.{Bound, Comment, Title, End, Data}
use Rattle.frame.specs.declared.place.Place.{Place}
use Rattle.frame.specs.declared.walk.Block.{Block}
use Rattle.frame.specs.declared.walk.Frame.{Frame}
use Rattle.std.specs.List.{flat_map}

-- no title twice
abbrev pub Apart : List Block → Type 0
Apart [] = Unit {0}
Apart (b ∷ bs) = (has_title b.caption.title bs ≡ false) × Apart bs

-- what stands between header and footer: a comment line; or a block, with what its title names, its title line, the lines
-- inside it, and its end line
pub data Part : Type 0 where
  remark : List ℕ → Part
  section : Caption → List ℕ → List (List ℕ) → List ℕ → Part

-- the lines of a part
abbrev pub written : Part → List (List ℕ)
written (remark l) = l ∷ []
written (section c title inner end) = title ∷ (inner ++ end ∷ [])

abbrev pub OfKind : LineKind → List ℕ → Type 0
OfKind k l = kind_of (line_of l) ≡ Some k

abbrev pub All : {X : Type 0} → (X → Type 0) → List X → Type 0
All P [] = Unit {0}
All P (x ∷ xs) = P x × All P xs

-- the words after the sign of a line, one blank apart
abbrev pub words : List ℕ → List ℕ
words l = (heading_of (line_of l)).text

-- inside a block stand data lines and comments; its end line has the words of its title line
abbrev pub Good : Part → Type 0
Good (remark l) = OfKind Comment l
Good (section c title inner end) =
    OfKind Title title × (caption_of (words title) ≡ Some c) × All (λ l. OfKind Data l ⊎ OfKind Comment l) inner × OfKind End end × (words end ≡ words title)

-- the place after some lines
abbrev pub passed_all : Place → List (List ℕ) → Place
passed_all p [] = p
passed_all p (l ∷ ls) = passed_all (passed p (length l)) ls

abbrev pub data_or : Option LineKind → DataLine → List DataLine → List DataLine
data_or None x xs = xs
data_or (Some Bound) x xs = xs
data_or (Some Comment) x xs = xs
data_or (Some Title) x xs = xs
data_or (Some End) x xs = xs
data_or (Some Data) x xs = x ∷ xs

-- the data lines among some lines, the first of which has the number n
abbrev pub data_in : ℕ → List (List ℕ) → List DataLine
data_in n [] = []
data_in n (l ∷ ls) = data_or (kind_of (line_of l)) (record { number = n; line = line_of l }) (data_in (n + 1) ls)

-- the block that a section from a place on is
abbrev pub block_at : Place → Caption → List ℕ → List (List ℕ) → Block
block_at p c title inner = record {
  caption = c;
  start = p;
  body = passed p (length title);
  data_lines = length (data_in (p.line + 1) inner);
  end = (passed_all (passed p (length title)) inner).line;
}

-- the blocks of some parts, the first of which stands at p
abbrev pub blocks_of : Place → List Part → List Block
blocks_of p [] = []
blocks_of p (remark l ∷ xs) = blocks_of (passed p (length l)) xs
blocks_of p (section c title inner end ∷ xs) = block_at p c title inner ∷ blocks_of (passed_all p (title ∷ (inner ++ end ∷ []))) xs

-- the data lines of each block of some parts, the first of which stands at p
abbrev pub data_of : Place → List Part → List (List DataLine)
data_of p [] = []
data_of p (remark l ∷ xs) = data_of (passed p (length l)) xs
data_of p (section c title inner end ∷ xs) = data_in (p.line + 1) inner ∷ data_of (passed_all p (title ∷ (inner ++ end ∷ []))) xs

-- one exactly where the other
abbrev pub Exactly : Type 0 → Type 0 → Type 0
Exactly A B = (A → B) × (B → A)

-- a content of this frame: each line fits; the first is a header; comments and blocks follow, no title comes twice and no
-- block that is taken up is missing; the last line is the footer
pub record Right (cs : List ℕ) (f : Frame) : Type 0 where
  pub small : length cs ≤ 100000000
  pub fit : All (λ l. fits l ≡ true) (lines cs)
  pub first : List ℕ
  pub parts : List Part
  pub last : List ℕ
  pub whole : lines cs ≡ first ∷ (flat_map written parts ++ last ∷ [])
  pub header : is_header (line_of first) ≡ true
  pub good : All Good parts
  pub ends : is_text footer (line_of last).columns ≡ true
  pub apart : Apart (blocks_of (passed first_place (length first)) parts)
  pub taken : all_taken (blocks_of (passed first_place (length first)) parts) ≡ true
  pub frame : f ≡ frame_as (blocks_of (passed first_place (length first)) parts) (length (lines cs))
  -- a walk from the line after a block's title yields the data lines of that block, with their numbers
  pub walks : map (λ (b : Block). data_at cs b.body) (blocks_of (passed first_place (length first)) parts) ≡ data_of (passed first_place (length first)) parts
