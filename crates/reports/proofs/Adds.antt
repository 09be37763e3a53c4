-- Bytes that are added to those already there.
use Rattle.std.proofs.Common.{◌≡◌, ℕ, cond, List, ◌++◌, length, take, is_ok, IfOk, Some, None, Ok, Err, Option, Result, Bor, MatchOption, eqb, [], ◌∷◌, sym, refl, ap, ◌∙◌, inl, inr, arith}
use Rattle.frame.specs.Headings.{columns, heading_of, squeezed}
use Rattle.frame.specs.Frames.{block_of}
use Rattle.frame.specs.Titles.{place_of}
use Rattle.frame.specs.declared.heading.Heading.{Heading}
use Rattle.frame.specs.declared.line.Line.{Line}
use Rattle.frame.specs.declared.title.Title.{Title}
use Rattle.frame.specs.declared.walk.Block.{Block}
use Rattle.reports.specs.FileReport.{data_lines_of}
use Rattle.std.proofs.lemmas.List.{take_all, take-append-le}
use Rattle.std.proofs.lemmas.Bool.{cases_Bool}
use Rattle.std.specs.Option.{option_copied, option_map_or}

-- what a granted call has added
pub added : {U E : Type 0} (r : Result U E) (before after xs ys : List ℕ) → after ≡ cond (is_ok r) (before ++ xs) before → xs ≡ ys → IfOk r (λ _. after ≡ before ++ ys)
added (Ok u) before after xs ys e p = e ∙ ap (λ zs. before ++ zs) p
added (Err x) before after xs ys e p = tt

-- the words of a heading are those of its line
pub words_of : (h : Heading) (ln : Line) → h ≡ heading_of ln → take h.len h.text ≡ squeezed (columns 1 79 ln)
unfolding heading_of
words_of h ln e =
    let ws = squeezed (columns 1 79 ln) in
    ap (λ (k : Heading). take k.len k.text) e ∙ (take-append-le (length ws) ws _ (omega arith) ∙ take_all (length ws) ws (omega arith))

-- the data lines of the block that was found
data_of_block : (k : Title) (bs : List Block) → data_lines_of k bs ≡ option_map_or (λ (b : Block). b.data_lines) (block_of k bs) 0
data_of_block k [] = refl
data_of_block k (b ∷ bs) = elim (cases_Bool (eqb (place_of b.caption.title) (place_of k))) [ inl e ↦ rw e refl | inr e ↦ rw e (data_of_block k bs) ]

pub lines_found : (k : Title) (bs : List Block) (o : Option (Bor Block)) (r : ℕ) → option_copied o ≡ block_of k bs → MatchOption o (r ≡ 0) (λ b. r ≡ b.now.data_lines) → r ≡ data_lines_of k bs
lines_found k bs None r e h = h ∙ (ap (λ (o : Option Block). option_map_or (λ (b : Block). b.data_lines) o 0) e ∙ sym (data_of_block k bs))
lines_found k bs (Some b) r e h = h ∙ (ap (λ (o : Option Block). option_map_or (λ (c : Block). c.data_lines) o 0) e ∙ sym (data_of_block k bs))
