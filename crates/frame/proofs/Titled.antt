-- No title twice: so the blocks never outnumber the titles.
use Rattle.std.proofs.Common.{◌≡◌, ℕ, zero, suc, ◌+◌, ◌<◌, ◌≤◌, Bool, true, false, cond, eqb, ◌≢◌, List, [], ◌∷◌, ◌++◌, length, get_or, set, replicate, IfOk, Bor, Some, None, Ok, Option, Result, sym, refl, ap, ◌∙◌, subst, inl, inr, arith, rules, lit<}
use Rattle.frame.specs.Frames.{has_title, block_of, stepped, by_kind, by_stage, ending, inside, outside, opening, is_header, Spacious, SpaciousIn}
use Rattle.frame.specs.Headings.{caption_of, heading_of}
use Rattle.frame.specs.Lines.{kind_of, passed}
use Rattle.frame.specs.Rules.{Apart}
use Rattle.frame.specs.Titles.{place_of, titles}
use Rattle.frame.specs.contracts.title.TitlePartialEq.TheImpl.{ghosts}
use Rattle.frame.specs.declared.heading.Caption.{Caption}
use Rattle.frame.specs.declared.heading.Heading.{Heading}
use Rattle.frame.specs.declared.line.Line.{Line}
use Rattle.frame.specs.declared.line.LineKind.{LineKind}
use Rattle.frame.specs.declared.line.LineKind.TheVariants.{Bound, Comment, Title, End, Data}
use Rattle.frame.specs.declared.place.Place.{Place}
use Rattle.frame.specs.declared.title.Title.{Title as BlockTitle}
use Rattle.frame.specs.declared.title.Title.TheVariants.{FileReference, FileComment, InputHistory, InputFiles, InputAcknowledgements, NutationData, PrecessionData, SourceId, SiteId, SiteData, SiteReceiver, SiteAntenna, SiteGpsPhaseCenter, SiteGalPhaseCenter, SiteEccentricity, SatelliteId, SatellitePhaseCenter, BiasEpochs, SolutionEpochs, SolutionStatistics, SolutionEstimate, SolutionApriori, SolutionMatrixEstimate, SolutionMatrixApriori, SolutionNormalEquationVector, SolutionNormalEquationMatrix}
use Rattle.frame.specs.declared.walk.Block.{Block}
use Rattle.frame.specs.declared.walk.Progress.{Progress}
use Rattle.frame.specs.declared.walk.Stage.{Stage}
use Rattle.frame.specs.declared.walk.Stage.TheVariants.{Start, Outside, Inside}
use Rattle.refusals.specs.declared.Refusal.{Refusal}
use Rattle.std.proofs.lemmas.List.{get_or-set_other, get_or-replicate, length-set}
use Rattle.std.proofs.lemmas.Bool.{cases_Bool, cond_both, eq-eqb, eqb-true, ne_eqb, eqb-false, or_parts, or_from, false≢true}
use Rattle.std.specs.List.{find}
use Rattle.std.proofs.lemmas.Bool.Decides.{same_from_decides}
use denote.Enum.Bare.{same_true, true_same}
use Rattle.frame.specs.contracts.title.Title.{the_type}
use Rattle.std.specs.Option.{is_some, option_copied}
use Rattle.std.specs.Str.{bytes_eq}

-- the search for a title
has_found : (k : BlockTitle) (bs : List Block) → has_title k bs ≡ is_some (block_of k bs)
has_found k [] = refl
has_found k (b ∷ bs) = elim (cases_Bool (eqb (place_of b.caption.title) (place_of k))) [ inl e ↦ rw e refl | inr e ↦ rw e (has_found k bs) ]

pub has_given : (k : BlockTitle) (bs : List Block) (o : Option (Bor Block)) → option_copied o ≡ block_of k bs → is_some o ≡ has_title k bs
has_given k bs None e = ap is_some e ∙ sym (has_found k bs)
has_given k bs (Some x) e = ap is_some e ∙ sym (has_found k bs)

pub block_found : (k : BlockTitle) (bs : List Block) → block_of k bs ≡ find (λ b. eqb (place_of b.caption.title) (place_of k)) bs
block_found k [] = refl
block_found k (b ∷ bs) = ap (cond (eqb (place_of b.caption.title) (place_of k)) (Some b)) (block_found k bs)

-- a title at its place
title_at : ℕ → BlockTitle
title_at n = get_or titles n FileReference

at_place : (k : BlockTitle) → title_at (place_of k) ≡ k
unfolding title_at titles
at_place FileReference = refl
at_place FileComment = refl
at_place InputHistory = refl
at_place InputFiles = refl
at_place InputAcknowledgements = refl
at_place NutationData = refl
at_place PrecessionData = refl
at_place SourceId = refl
at_place SiteId = refl
at_place SiteData = refl
at_place SiteReceiver = refl
at_place SiteAntenna = refl
at_place SiteGpsPhaseCenter = refl
at_place SiteGalPhaseCenter = refl
at_place SiteEccentricity = refl
at_place SatelliteId = refl
at_place SatellitePhaseCenter = refl
at_place BiasEpochs = refl
at_place SolutionEpochs = refl
at_place SolutionStatistics = refl
at_place SolutionEstimate = refl
at_place SolutionApriori = refl
at_place SolutionMatrixEstimate = refl
at_place SolutionMatrixApriori = refl
at_place SolutionNormalEquationVector = refl
at_place SolutionNormalEquationMatrix = refl

-- two titles are the same exactly where their places are
pub same_place : (a b : BlockTitle) → ghosts.eq a b ≡ eqb (place_of a) (place_of b)
same_place a b = same_from_decides (ghosts.eq a b) _ (λ e. same_true the_type (search rules) a b e, λ e. true_same the_type a b e) (λ e. sym (at_place a) ∙ (ap title_at (eqb-true _ _ e) ∙ at_place b), λ e. eq-eqb _ _ (ap place_of e))

-- a block more at the end
eqb_sym : (a b : ℕ) → eqb a b ≡ false → eqb b a ≡ false
eqb_sym a b e = ne_eqb b a (λ z. eqb-false a b e (sym z))

has_push : (k : BlockTitle) (bs : List Block) (b : Block) → has_title k bs ≡ false → eqb (place_of b.caption.title) (place_of k) ≡ false → has_title k (bs ++ b ∷ []) ≡ false
has_push k [] b h e = or_from _ _ e refl
has_push k (c ∷ cs) b h e = let p = or_parts _ _ h in or_from _ _ p.0 (has_push k cs b p.1 e)

pub apart_push : (bs : List Block) (b : Block) → Apart bs → has_title b.caption.title bs ≡ false → Apart (bs ++ b ∷ [])
apart_push [] b a h = (refl, tt)
apart_push (c ∷ cs) b a h = let p = or_parts _ _ h in (has_push c.caption.title cs b a.0 (eqb_sym _ _ p.0), apart_push cs b a.1 p.1)

-- the first of some blocks after others is new among those
pub has_apart : (bs : List Block) (b : Block) (cs : List Block) → Apart (bs ++ b ∷ cs) → has_title b.caption.title bs ≡ false
has_apart [] b cs a = refl
has_apart (x ∷ xs) b cs a = or_from _ _ (eqb_sym _ _ (there xs a.0)) (has_apart xs b cs a.1)
  where
    there : (ys : List Block) → has_title x.caption.title (ys ++ b ∷ cs) ≡ false → eqb (place_of b.caption.title) (place_of x.caption.title) ≡ false
    there [] h = (or_parts _ _ h).0
    there (y ∷ ys) h = there ys (or_parts _ _ h).1

pub place-below : (k : BlockTitle) → place_of k < 26
place-below FileReference = lit< tt
place-below FileComment = lit< tt
place-below InputHistory = lit< tt
place-below InputFiles = lit< tt
place-below InputAcknowledgements = lit< tt
place-below NutationData = lit< tt
place-below PrecessionData = lit< tt
place-below SourceId = lit< tt
place-below SiteId = lit< tt
place-below SiteData = lit< tt
place-below SiteReceiver = lit< tt
place-below SiteAntenna = lit< tt
place-below SiteGpsPhaseCenter = lit< tt
place-below SiteGalPhaseCenter = lit< tt
place-below SiteEccentricity = lit< tt
place-below SatelliteId = lit< tt
place-below SatellitePhaseCenter = lit< tt
place-below BiasEpochs = lit< tt
place-below SolutionEpochs = lit< tt
place-below SolutionStatistics = lit< tt
place-below SolutionEstimate = lit< tt
place-below SolutionApriori = lit< tt
place-below SolutionMatrixEstimate = lit< tt
place-below SolutionMatrixApriori = lit< tt
place-below SolutionNormalEquationVector = lit< tt
place-below SolutionNormalEquationMatrix = lit< tt

-- the titles that are there, marked in a row of 26
marks : List Block → List Bool
marks [] = replicate 26 false
marks (b ∷ bs) = set (marks bs) (place_of b.caption.title) true

length_marks : (bs : List Block) → length (marks bs) ≡ 26
unfolding marks
length_marks [] = refl
length_marks (b ∷ bs) = length-set (marks bs) _ true ∙ length_marks bs

unmarked : (bs : List Block) (k : BlockTitle) → has_title k bs ≡ false → get_or (marks bs) (place_of k) false ≡ false
unfolding marks
unmarked [] k h = get_or-replicate 26 (place_of k) false false (place-below k)
unmarked (b ∷ bs) k h =
    let p = or_parts _ _ h in
    let ne : place_of k ≢ place_of b.caption.title = λ z. eqb-false _ _ p.0 (sym z) in
    get_or-set_other (marks bs) _ _ true false ne ∙ unmarked bs k p.1

trues : List Bool → ℕ
trues [] = 0
trues (b ∷ bs) = cond b 1 0 + trues bs

trues_within : (bs : List Bool) → trues bs ≤ length bs
unfolding trues
trues_within [] = omega arith
trues_within (true ∷ bs) = let h = trues_within bs in omega arith
trues_within (false ∷ bs) = let h = trues_within bs in omega arith

trues_set : (bs : List Bool) (k : ℕ) → k < length bs → get_or bs k false ≡ false → trues (set bs k true) ≡ trues bs + 1
unfolding trues
trues_set [] k h e = absurd (omega arith)
trues_set (false ∷ bs) zero h e = omega arith
trues_set (true ∷ bs) zero h e = absurd (false≢true (sym e))
trues_set (b ∷ bs) (suc k) h e = let r = trues_set bs k (omega arith) e in omega arith

as_many : (bs : List Block) → Apart bs → trues (marks bs) ≡ length bs
unfolding marks trues
as_many [] a = refl
as_many (b ∷ bs) a =
    let l = length_marks bs in
    let h : place_of b.caption.title < length (marks bs) = omega (arith, place-below b.caption.title) in
    let r = trues_set (marks bs) (place_of b.caption.title) h (unmarked bs b.caption.title a.0) in
    let i = as_many bs a.1 in
    omega arith

pub apart-few : (bs : List Block) → Apart bs → length bs ≤ 26
apart-few bs a = omega (arith, as_many bs a, trues_within (marks bs), length_marks bs)

-- the block that is open is new
abbrev pub New : Stage → List Block → Type 0
New Start bs = Unit {0}
New Outside bs = Unit {0}
New (Inside h b) bs = has_title b.caption.title bs ≡ false

-- the data lines of the block that is open
abbrev pub data_lines : Stage → ℕ
data_lines Start = 0
data_lines Outside = 0
data_lines (Inside h b) = b.data_lines

-- what the walk keeps of a progress
pub record Orderly (f : Progress) : Type 0 where
  pub apart : Apart f.ended
  pub new : New f.stage f.ended

-- where a block is open there is a place for it
pub orderly_spacious : (f : Progress) → Orderly f → data_lines f.stage ≤ 100000000 → Spacious f
orderly_spacious f k l = go f.stage f.ended k.apart k.new l
  where
    go : (s : Stage) (bs : List Block) → Apart bs → New s bs → data_lines s ≤ 100000000 → SpaciousIn s bs
    go Start bs a n l = tt
    go Outside bs a n l = tt
    go (Inside h b) bs a n l = let few = apart-few (b ∷ bs) (n, a) in (omega arith, l)

-- what a step leaves: an orderly progress, and at most one data line more
abbrev pub Stepped : Stage → Progress → Type 0
Stepped s g = Orderly g × (data_lines g.stage ≤ data_lines s + 1)

abbrev Leaves : Stage → Result Progress Refusal → Type 0
Leaves s r = IfOk r (Stepped s)

opening-leaves : (p q : Place) (s : Stage) (bs : List Block) (h : Heading) (o : Option Caption) → Apart bs → Leaves s (opening p q bs h o)
opening-leaves p q s bs h None a = tt
opening-leaves p q s bs h (Some c) a = cond_both (has_title c.title bs) _ _ (Leaves s) (λ _. tt) (λ e. (record { apart = a; new = e }, omega arith))

outside-leaves : (p : Place) (bs : List Block) (ln : Line) (k : LineKind) → Apart bs → Leaves Outside (outside p bs ln k)
outside-leaves p bs ln Bound a = tt
outside-leaves p bs ln Comment a = (record { apart = a; new = tt }, omega arith)
outside-leaves p bs ln Title a = opening-leaves p (passed p ln.len) Outside bs (heading_of ln) (caption_of (heading_of ln).text) a
outside-leaves p bs ln End a = tt
outside-leaves p bs ln Data a = tt

inside-leaves : (p : Place) (bs : List Block) (ln : Line) (h : Heading) (b : Block) (k : LineKind) → Apart bs → has_title b.caption.title bs ≡ false
    → Leaves (Inside h b) (inside p bs ln h b k)
inside-leaves p bs ln h b Bound a n = tt
inside-leaves p bs ln h b Comment a n = (record { apart = a; new = n }, omega arith)
inside-leaves p bs ln h b Title a n = tt
inside-leaves p bs ln h b End a n =
    cond_both (bytes_eq (heading_of ln).text h.text) _ _ (Leaves (Inside h b)) (λ _. (record { apart = apart_push bs (ending p b) a n; new = tt }, omega arith)) (λ _. tt)
inside-leaves p bs ln h b Data a n = (record { apart = a; new = n }, omega arith)

by_stage_leaves : (p : Place) (bs : List Block) (ln : Line) (k : LineKind) (s : Stage) → Apart bs → New s bs → Leaves s (by_stage p bs ln k s)
by_stage_leaves p bs ln k Start a n = cond_both (is_header ln) _ _ (Leaves Start) (λ _. (record { apart = a; new = tt }, omega arith)) (λ _. tt)
by_stage_leaves p bs ln k Outside a n = outside-leaves p bs ln k a
by_stage_leaves p bs ln k (Inside h b) a n = inside-leaves p bs ln h b k a n

by_kind_leaves : (p : Place) (f : Progress) (ln : Line) (o : Option LineKind) → Orderly f → Leaves f.stage (by_kind p f ln o)
by_kind_leaves p f ln None k = tt
by_kind_leaves p f ln (Some s) k = by_stage_leaves p f.ended ln s f.stage k.apart k.new

pub stepped-leaves : (p : Place) (f g : Progress) (ln : Line) → Orderly f → Ok g ≡ stepped p f ln → Stepped f.stage g
stepped-leaves p f g ln k e = subst (λ (r : Result Progress Refusal). IfOk r (Stepped f.stage)) (sym e) (by_kind_leaves p f ln (kind_of ln) k)
