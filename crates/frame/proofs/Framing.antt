-- The frame is right exactly where the pass over the lines accepts.
use Rattle.std.proofs.Common.{◌≡◌, ℕ, ◌+◌, ◌≤◌, Bool, true, false, cond, eqb, ltb, ◌⊎◌, List, [], ◌∷◌, ◌++◌, map, length, drop, Some, None, Ok, Err, codes, Option, Result, sym, refl, ap, ◌∙◌, subst, inl, inr, add-zero, zero-add, arith}
use Rattle.frame.proofs.DataWalk.{lines-past}
use Rattle.frame.proofs.Titled.{New, apart_push, has_apart}
use Rattle.frame.specs.DataLines.{data_from, data_by, data_at}
use Rattle.frame.specs.Blocks.{frame_as}
use Rattle.frame.specs.Frames.{all_taken, by_kind, continued, counted, ended, end_by_kind, end_by_stage, ending, first_place, footer, frame, framed, has_title, inside, is_header, opening, outside, stepped, unread}
use Rattle.frame.specs.Headings.{begins, caption_of, heading_of, is_text}
use Rattle.frame.specs.Lines.{fits, is_nil, kind_by, kind_of, line_of, lines, passed}
use Rattle.frame.specs.Rules.{All, Apart, Good, OfKind, Part, Right, remark, section, block_at, blocks_of, data_in, data_of, data_or, passed_all, words, written}
use Rattle.frame.specs.declared.data.DataLine.{DataLine}
use Rattle.frame.specs.declared.heading.Caption.{Caption}
use Rattle.frame.specs.declared.heading.Heading.{Heading}
use Rattle.frame.specs.declared.line.LineKind.{LineKind}
use Rattle.frame.specs.declared.line.LineKind.TheVariants.{Bound, Comment, Title, End, Data}
use Rattle.frame.specs.declared.place.Place.{Place}
use Rattle.frame.specs.declared.walk.Block.{Block}
use Rattle.frame.specs.declared.walk.Frame.{Frame}
use Rattle.frame.specs.declared.walk.Progress.{Progress}
use Rattle.frame.specs.declared.walk.Stage.{Stage}
use Rattle.frame.specs.declared.walk.Stage.TheVariants.{Start, Outside, Inside}
use Rattle.refusals.specs.declared.Refusal.{Refusal}
use Rattle.std.proofs.lemmas.Slice.Eq.{bytes_eq-Decides}
use Rattle.std.proofs.lemmas.List.{append_assoc, append-nil, length-append}
use Rattle.std.proofs.lemmas.Bool.{and_parts, cond_both, cond-true, cond-false, eqb-true, false≢true, le-ltb, ltb-false, ne_eqb}
use Rattle.std.specs.List.{flat_map}
use Rattle.std.specs.Str.{bytes_eq}

-- ---- results

no_result : {T E : Type 0} {x : E} {y : T} → Err x ≡ Ok y → ⊥
no_result e = let z : ◌≡◌ {A = ℕ} 0 1 = cc in omega arith

-- what an accepted test leaves
tested : {T E : Type 0} (b : Bool) (r : Result T E) (e : E) (y : T) → cond b r (Err e) ≡ Ok y → (b ≡ true) × (r ≡ Ok y)
tested true r e y p = (refl, p)
tested false r e y p = absurd (no_result p)

denied : {T E : Type 0} (b : Bool) (r : Result T E) (e : E) (y : T) → cond b (Err e) r ≡ Ok y → (b ≡ false) × (r ≡ Ok y)
denied true r e y p = absurd (no_result p)
denied false r e y p = (refl, p)

went_on : (r : Result Progress Refusal) (k : Progress → Result Frame Refusal) (g : Frame) → continued r k ≡ Ok g → (h : Progress) × (r ≡ Ok h) × (k h ≡ Ok g)
went_on (Ok h) k g e = (h, refl, e)
went_on (Err x) k g e = absurd (no_result e)

-- ---- a progress

abbrev on : Stage → List Block → Progress
on s bs = record { stage = s; ended = bs }

-- one line of a frame that is accepted
frame_line : (p : Place) (f : Progress) (l : List ℕ) (ls : List (List ℕ)) (g : Frame) → frame p f (l ∷ ls) ≡ Ok g
    → (fits l ≡ true) × (cond (is_nil ls) (ended p f (line_of l)) (continued (stepped p f (line_of l)) (λ h. frame (passed p (length l)) h ls)) ≡ Ok g)
unfolding frame
frame_line p f l ls g e = tested _ _ _ g e

-- ---- what an accepted rest of a file is made of

-- outside a block: parts, and the footer
record Rest (p : Place) (bs : List Block) (ls : List (List ℕ)) (g : Frame) : Type 0 where
  parts : List Part
  last : List ℕ
  whole : ls ≡ flat_map written parts ++ last ∷ []
  fit : All (λ l. fits l ≡ true) ls
  good : All Good parts
  ends : is_text footer (line_of last).columns ≡ true
  apart : Apart (bs ++ blocks_of p parts)
  taken : all_taken (bs ++ blocks_of p parts) ≡ true
  frame : g ≡ frame_as (bs ++ blocks_of p parts) (passed_all p (flat_map written parts)).line

-- a block that is open, with the lines inside it that are still to come
abbrev grown : Block → Place → List (List ℕ) → Block
grown b p inner = record {
  caption = b.caption;
  start = b.start;
  body = b.body;
  data_lines = b.data_lines + length (data_in p.line inner);
  end = (passed_all p inner).line;
}

-- inside a block: the lines up to its end, and a rest outside
record RestInside (p : Place) (title : List ℕ) (b : Block) (bs : List Block) (ls : List (List ℕ)) (g : Frame) : Type 0 where
  inner : List (List ℕ)
  end : List ℕ
  after : List (List ℕ)
  whole : ls ≡ inner ++ end ∷ after
  fit : All (λ l. fits l ≡ true) (inner ++ end ∷ [])
  inners : All (λ l. OfKind Data l ⊎ OfKind Comment l) inner
  ended : OfKind End end
  same : words end ≡ title
  rest : Rest (passed_all p (inner ++ end ∷ [])) (bs ++ grown b p inner ∷ []) after g

-- by the stage
abbrev Claim : Stage → Place → List Block → List (List ℕ) → Frame → Type 0
Claim Start p bs ls g = Unit {0}
Claim Outside p bs ls g = Rest p bs ls g
Claim (Inside h b) p bs ls g = RestInside p h.text b bs ls g

-- ---- an accepted rest has such parts

-- the footer
last_rest : (p : Place) (bs : List Block) (l : List ℕ) (g : Frame) (s : Stage) → Apart bs → fits l ≡ true
    → end_by_stage p bs (line_of l) s ≡ Ok g → Claim s p bs (l ∷ []) g
last_rest p bs l g Start a b e = tt
last_rest p bs l g (Inside h c) a b e = absurd (no_result e)
last_rest p bs l g Outside a b e =
    let t = tested (is_text footer (line_of l).columns) _ _ g e in
    let u = tested (all_taken bs) _ _ g t.1 in
    let none : bs ≡ bs ++ [] = sym (append-nil bs) in
    let same : g ≡ frame_as bs p.line = let x = u.1 in cc in
    record {
      parts = [];
      last = l;
      whole = refl;
      fit = (b, tt);
      good = tt;
      ends = t.0;
      apart = subst Apart none a;
      taken = ap all_taken (sym none) ∙ u.0;
      frame = same ∙ ap (λ (xs : List Block). frame_as xs p.line) none;
    }

last_claim : (p : Place) (bs : List Block) (l : List ℕ) (g : Frame) (s : Stage) (o : Option LineKind) → kind_of (line_of l) ≡ o → Apart bs → fits l ≡ true
    → ended p (on s bs) (line_of l) ≡ Ok g → Claim s p bs (l ∷ []) g
last_claim p bs l g s None q a b e = absurd (no_result (sym (ap (end_by_kind p (on s bs) (line_of l)) q) ∙ e))
last_claim p bs l g s (Some k) q a b e = last_rest p bs l g s a b (sym (ap (end_by_kind p (on s bs) (line_of l)) q) ∙ e)

-- what is claimed of the lines after the first
abbrev Later : Place → List (List ℕ) → Frame → Type 0
Later p ls g = (s : Stage) (bs : List Block) → Apart bs → New s bs → frame p (on s bs) ls ≡ Ok g → Claim s p bs ls g

-- a comment outside
rest-remark : (p : Place) (bs : List Block) (l : List ℕ) (ls : List (List ℕ)) (g : Frame) → OfKind Comment l → fits l ≡ true → Rest (passed p (length l)) bs ls g → Rest p bs (l ∷ ls) g
rest-remark p bs l ls g k b r = record {
  parts = remark l ∷ r.parts;
  last = r.last;
  whole = ap (λ (x : List (List ℕ)). l ∷ x) r.whole;
  fit = (b, r.fit);
  good = (k, r.good);
  ends = r.ends;
  apart = r.apart;
  taken = r.taken;
  frame = r.frame;
}

all_append : {X : Type 0} (P : X → Type 0) (xs ys : List X) → All P xs → All P ys → All P (xs ++ ys)
all_append P [] ys a b = b
all_append P (x ∷ xs) ys a b = (a.0, all_append P xs ys a.1 b)

-- the place after lines and further lines
passed_all_lem : (p : Place) (xs ys : List (List ℕ)) → passed_all (passed_all p xs) ys ≡ passed_all p (xs ++ ys)
passed_all_lem p [] ys = refl
passed_all_lem p (x ∷ xs) ys = passed_all_lem (passed p (length x)) xs ys

-- a block: its title, and what stands inside
rest-section : (p : Place) (c : Caption) (bs : List Block) (t : List ℕ) (ls : List (List ℕ)) (g : Frame) → OfKind Title t → caption_of (words t) ≡ Some c → fits t ≡ true
    → RestInside (passed p (length t)) (words t) (record { caption = c; start = p; body = passed p (length t); data_lines = 0; end = 0 }) bs ls g → Rest p bs (t ∷ ls) g
rest-section p c bs t ls g k q b r =
    let s = r.rest in
    let block : grown (record { caption = c; start = p; body = passed p (length t); data_lines = 0; end = 0 }) (passed p (length t)) r.inner ≡ block_at p c t r.inner
    = λ i. record { caption = c; start = p; body = passed p (length t); data_lines = zero-add (length (data_in (p.line + 1) r.inner)) i; end = (passed_all (passed p (length t)) r.inner).line } in
    let all : (bs ++ block_at p c t r.inner ∷ []) ++ blocks_of (passed_all p (t ∷ (r.inner ++ r.end ∷ []))) s.parts
    ≡ bs ++ blocks_of p (section c t r.inner r.end ∷ s.parts) = append_assoc bs (block_at p c t r.inner ∷ []) _ in
    let move : (bs ++ grown (record { caption = c; start = p; body = passed p (length t); data_lines = 0; end = 0 }) (passed p (length t)) r.inner ∷ [])
    ++ blocks_of (passed_all p (t ∷ (r.inner ++ r.end ∷ []))) s.parts ≡ bs ++ blocks_of p (section c t r.inner r.end ∷ s.parts)
    = ap (λ (x : Block). (bs ++ x ∷ []) ++ blocks_of (passed_all p (t ∷ (r.inner ++ r.end ∷ []))) s.parts) block ∙ all in
    let lay : (r.inner ++ r.end ∷ []) ++ (flat_map written s.parts ++ s.last ∷ []) ≡ r.inner ++ (r.end ∷ (flat_map written s.parts ++ s.last ∷ [])) = append_assoc r.inner (r.end ∷ []) _ in
    record {
      parts = section c t r.inner r.end ∷ s.parts;
      last = s.last;
      whole = ap (λ (x : List (List ℕ)). t ∷ x) (r.whole ∙ (ap (λ (x : List (List ℕ)). r.inner ++ r.end ∷ x) s.whole ∙ (sym lay ∙ sym (append_assoc (r.inner ++ r.end ∷ []) (flat_map written s.parts) _))));
      fit = (b, subst (All (λ l. fits l ≡ true)) (append_assoc r.inner (r.end ∷ []) r.after ∙ sym r.whole) (all_append _ (r.inner ++ r.end ∷ []) r.after r.fit s.fit));
      good = ((k, q, r.inners, r.ended, r.same), s.good);
      ends = s.ends;
      apart = subst Apart move s.apart;
      taken = subst (λ (x : List Block). all_taken x ≡ true) move s.taken;
      frame = s.frame ∙ (λ i. frame_as (move i) (passed-append p t (r.inner ++ r.end ∷ []) (flat_map written s.parts) i));
    }
  where
    passed-append : (p : Place) (t : List ℕ) (xs ys : List (List ℕ)) → (passed_all (passed_all p (t ∷ xs)) ys).line ≡ (passed_all p (t ∷ (xs ++ ys))).line
    passed-append p t xs ys = ap (λ (q : Place). q.line) (passed_all_lem (passed p (length t)) xs ys)

-- a line inside a block, comment or data
inside_more : (p : Place) (t : List ℕ) (b c : Block) (bs : List Block) (l : List ℕ) (ls : List (List ℕ)) (g : Frame) → (OfKind Data l ⊎ OfKind Comment l) → fits l ≡ true
    → ((inner : List (List ℕ)) → grown c (passed p (length l)) inner ≡ grown b p (l ∷ inner))
    → RestInside (passed p (length l)) t c bs ls g → RestInside p t b bs (l ∷ ls) g
inside_more p t b c bs l ls g k f e r = record {
  inner = l ∷ r.inner;
  end = r.end;
  after = r.after;
  whole = ap (λ (x : List (List ℕ)). l ∷ x) r.whole;
  fit = (f, r.fit);
  inners = (k, r.inners);
  ended = r.ended;
  same = r.same;
  rest = subst (λ (x : Block). Rest (passed_all (passed p (length l)) (r.inner ++ r.end ∷ [])) (bs ++ x ∷ []) r.after g) (e r.inner) r.rest;
}

-- the end line of a block
inside-end : (p : Place) (t : List ℕ) (b : Block) (bs : List Block) (l : List ℕ) (ls : List (List ℕ)) (g : Frame) → OfKind End l → fits l ≡ true → words l ≡ t
    → Rest (passed p (length l)) (bs ++ grown b p [] ∷ []) ls g → RestInside p t b bs (l ∷ ls) g
inside-end p t b bs l ls g k f w r = record {
  inner = [];
  end = l;
  after = ls;
  whole = refl;
  fit = (f, tt);
  inners = tt;
  ended = k;
  same = w;
  rest = r;
}

-- a block that ends with no further lines inside
ended-block : (b : Block) (p : Place) → ending p b ≡ grown b p []
ended-block b p = λ i. record { caption = b.caption; start = b.start; body = b.body; data_lines = sym (add-zero b.data_lines) i; end = p.line }

more_outside : (p : Place) (bs : List Block) (l : List ℕ) (ls : List (List ℕ)) (g : Frame) (f : Progress) (k : LineKind)
    → kind_of (line_of l) ≡ Some k → Apart bs → fits l ≡ true → outside p bs (line_of l) k ≡ Ok f
    → Later (passed p (length l)) ls g → frame (passed p (length l)) f ls ≡ Ok g → Rest p bs (l ∷ ls) g
more_outside p bs l ls g f Bound q a b e next fr = absurd (no_result e)
more_outside p bs l ls g f End q a b e next fr = absurd (no_result e)
more_outside p bs l ls g f Data q a b e next fr = absurd (no_result e)
more_outside p bs l ls g f Comment q a b e next fr =
    let same : on Outside bs ≡ f = cc in
    rest-remark p bs l ls g q b (next Outside bs a tt (ap (λ (x : Progress). frame (passed p (length l)) x ls) same ∙ fr))
more_outside p bs l ls g f Title q a b e next fr = go (caption_of (words l)) refl e
  where
    go : (c : Option Caption) → caption_of (words l) ≡ c → opening p (passed p (length l)) bs (heading_of (line_of l)) c ≡ Ok f → Rest p bs (l ∷ ls) g
    go None w e = absurd (no_result e)
    go (Some c) w e =
        let t = denied (has_title c.title bs) _ _ f e in
        let s : Stage = Inside (heading_of (line_of l)) (record { caption = c; start = p; body = passed p (length l); data_lines = 0; end = 0 }) in
        let same : on s bs ≡ f = let x = t.1 in cc in
        rest-section p c bs l ls g q w b (next s bs a t.0 (ap (λ (x : Progress). frame (passed p (length l)) x ls) same ∙ fr))

more_inside : (p : Place) (h : Heading) (b : Block) (bs : List Block) (l : List ℕ) (ls : List (List ℕ)) (g : Frame) (f : Progress) (k : LineKind)
    → kind_of (line_of l) ≡ Some k → Apart bs → has_title b.caption.title bs ≡ false → fits l ≡ true → inside p bs (line_of l) h b k ≡ Ok f
    → Later (passed p (length l)) ls g → frame (passed p (length l)) f ls ≡ Ok g → RestInside p h.text b bs (l ∷ ls) g
more_inside p h b bs l ls g f Bound q a n t e next fr = absurd (no_result e)
more_inside p h b bs l ls g f Title q a n t e next fr = absurd (no_result e)
more_inside p h b bs l ls g f Comment q a n t e next fr =
    let same : on (Inside h b) bs ≡ f = cc in
    inside_more p _ b b bs l ls g (inr q) t (λ inner. over inner) (next (Inside h b) bs a n (ap (λ (x : Progress). frame (passed p (length l)) x ls) same ∙ fr))
  where
    over : (inner : List (List ℕ)) → grown b (passed p (length l)) inner ≡ grown b p (l ∷ inner)
    over inner = λ i. record { caption = b.caption; start = b.start; body = b.body; data_lines = b.data_lines + length (data_or (sym q i) (record { number = p.line; line = line_of l }) (data_in (p.line + 1) inner)); end = (passed_all (passed p (length l)) inner).line }
more_inside p h b bs l ls g f Data q a n t e next fr =
    let same : on (Inside h (counted b)) bs ≡ f = cc in
    inside_more p _ b (counted b) bs l ls g (inl q) t (λ inner. over inner)
    (next (Inside h (counted b)) bs a n (ap (λ (x : Progress). frame (passed p (length l)) x ls) same ∙ fr))
  where
    over : (inner : List (List ℕ)) → grown (counted b) (passed p (length l)) inner ≡ grown b p (l ∷ inner)
    over inner =
        let more : b.data_lines + 1 + length (data_in (p.line + 1) inner) ≡ b.data_lines + length (data_or (kind_of (line_of l)) (record { number = p.line; line = line_of l }) (data_in (p.line + 1) inner)) = rw q (omega arith) in
        λ i. record { caption = b.caption; start = b.start; body = b.body; data_lines = more i; end = (passed_all (passed p (length l)) inner).line }
more_inside p h b bs l ls g f End q a n t e next fr =
    let x = tested (bytes_eq (words l) h.text) _ _ f e in
    let w : words l ≡ h.text = (bytes_eq-Decides (words l) h.text).0 x.0 in
    let same : on Outside (bs ++ ending p b ∷ []) ≡ f = let y = x.1 in cc in
    inside-end p _ b bs l ls g q t w
    (next Outside (bs ++ grown b p [] ∷ []) (apart_push bs (grown b p []) a n) tt
    (ap (λ (c : Block). frame (passed p (length l)) (on Outside (bs ++ c ∷ [])) ls) (sym (ended-block b p)) ∙ (ap (λ (y : Progress). frame (passed p (length l)) y ls) same ∙ fr)))

more_claim : (p : Place) (bs : List Block) (l : List ℕ) (ls : List (List ℕ)) (g : Frame) (f : Progress) (s : Stage) (o : Option LineKind)
    → kind_of (line_of l) ≡ o → Apart bs → New s bs → fits l ≡ true → stepped p (on s bs) (line_of l) ≡ Ok f
    → Later (passed p (length l)) ls g → frame (passed p (length l)) f ls ≡ Ok g → Claim s p bs (l ∷ ls) g
more_claim p bs l ls g f s None q a n b e next fr = absurd (no_result (sym (ap (by_kind p (on s bs) (line_of l)) q) ∙ e))
more_claim p bs l ls g f Start (Some kind) q a n b e next fr = tt
more_claim p bs l ls g f Outside (Some kind) q a n b e next fr = more_outside p bs l ls g f kind q a b (sym (ap (by_kind p (on Outside bs) (line_of l)) q) ∙ e) next fr
more_claim p bs l ls g f (Inside h c) (Some kind) q a n b e next fr =
    more_inside p h c bs l ls g f kind q a n b (sym (ap (by_kind p (on (Inside h c) bs) (line_of l)) q) ∙ e) next fr

sound : (ls : List (List ℕ)) (p : Place) (g : Frame) → Later p ls g
unfolding frame
sound [] p g s bs a n e = absurd (no_result e)
sound (l ∷ []) p g s bs a n e = let t = frame_line p (on s bs) l [] g e in last_claim p bs l g s (kind_of (line_of l)) refl a t.0 t.1
sound (l ∷ (m ∷ ms)) p g s bs a n e =
    let t = frame_line p (on s bs) l (m ∷ ms) g e in
    let u = went_on (stepped p (on s bs) (line_of l)) (λ h. frame (passed p (length l)) h (m ∷ ms)) g t.1 in
    more_claim p bs l (m ∷ ms) g u.0 s (kind_of (line_of l)) refl a n t.0 u.1 (sound (m ∷ ms) (passed p (length l)) g) u.2

-- ---- such parts are accepted

nil_append : {X : Type 0} (xs ys : List X) → is_nil ys ≡ false → is_nil (xs ++ ys) ≡ false
nil_append [] ys e = e
nil_append (x ∷ xs) ys e = refl

-- one line on
frame_on : (p : Place) (f h : Progress) (l : List ℕ) (ls : List (List ℕ)) → fits l ≡ true → is_nil ls ≡ false → stepped p f (line_of l) ≡ Ok h
    → frame p f (l ∷ ls) ≡ frame (passed p (length l)) h ls
unfolding frame
frame_on p f h l ls b n e =
    cond-true _ _ _ b ∙ (cond-false _ _ _ n ∙ ap (λ (r : Result Progress Refusal). continued r (λ g. frame (passed p (length l)) g ls)) e)

abbrev with_data : Block → ℕ → Block
with_data b n = record b { data_lines = n }

abbrev Inner : List ℕ → Type 0
Inner l = OfKind Data l ⊎ OfKind Comment l

-- the lines inside a block
run : (inner : List (List ℕ)) (p : Place) (h : Heading) (b : Block) (bs : List Block) (rest : List (List ℕ)) → is_nil rest ≡ false
    → All (λ l. fits l ≡ true) inner → All Inner inner
    → frame p (on (Inside h b) bs) (inner ++ rest) ≡ frame (passed_all p inner) (on (Inside h (with_data b (b.data_lines + length (data_in p.line inner)))) bs) rest
run [] p h b bs rest n f a = ap (λ (m : ℕ). frame p (on (Inside h (with_data b m)) bs) rest) (sym (add-zero b.data_lines))
run (l ∷ inner) p h b bs rest n f a =
    let q = passed p (length l) in
    let end = λ (m : ℕ). frame (passed_all q inner) (on (Inside h (with_data b m)) bs) rest in
    elim a.0 [
      | inl k ↦
          let more : b.data_lines + 1 + length (data_in (p.line + 1) inner) ≡ b.data_lines + length (data_in p.line (l ∷ inner)) = rw k (omega arith) in
          frame_on p _ (on (Inside h (counted b)) bs) l (inner ++ rest) f.0 (nil_append inner rest n) (ap (by_kind p (on (Inside h b) bs) (line_of l)) k)
          ∙ (run inner q h (counted b) bs rest n f.1 a.1 ∙ ap end more)
      | inr k ↦
          let more : b.data_lines + length (data_in (p.line + 1) inner) ≡ b.data_lines + length (data_in p.line (l ∷ inner)) = rw k refl in
          frame_on p _ (on (Inside h b) bs) l (inner ++ rest) f.0 (nil_append inner rest n) (ap (by_kind p (on (Inside h b) bs) (line_of l)) k)
          ∙ (run inner q h b bs rest n f.1 a.1 ∙ ap end more)
    ]

all_split : {X : Type 0} (P : X → Type 0) (xs ys : List X) → All P (xs ++ ys) → All P xs × All P ys
all_split P [] ys a = (tt, a)
all_split P (x ∷ xs) ys a = let r = all_split P xs ys a.1 in ((a.0, r.0), r.1)

-- a whole block
cross : (p : Place) (bs : List Block) (c : Caption) (t : List ℕ) (inner : List (List ℕ)) (e : List ℕ) (rest : List (List ℕ)) → is_nil rest ≡ false
    → has_title c.title bs ≡ false → All (λ l. fits l ≡ true) (t ∷ (inner ++ e ∷ [])) → Good (section c t inner e)
    → frame p (on Outside bs) (t ∷ ((inner ++ e ∷ []) ++ rest)) ≡ frame (passed_all p (t ∷ (inner ++ e ∷ []))) (on Outside (bs ++ block_at p c t inner ∷ [])) rest
cross p bs c t inner e rest n u f g =
    let q = passed p (length t) in
    let s = passed_all q inner in
    let h = heading_of (line_of t) in
    let b : Block = record { caption = c; start = p; body = q; data_lines = 0; end = 0 } in
    let d : Block = with_data b (0 + length (data_in (p.line + 1) inner)) in
    let fit = all_split (λ l. fits l ≡ true) inner (e ∷ []) f.1 in
    let opens : stepped p (on Outside bs) (line_of t) ≡ Ok (on (Inside h b) bs)
    = ap (by_kind p (on Outside bs) (line_of t)) g.0 ∙ (ap (opening p q bs h) g.1 ∙ cond-false _ _ _ u) in
    let same : bytes_eq (words e) h.text ≡ true = (bytes_eq-Decides (words e) h.text).1 g.4 in
    let closes : stepped s (on (Inside h d) bs) (line_of e) ≡ Ok (on Outside (bs ++ ending s d ∷ []))
    = ap (by_kind s (on (Inside h d) bs) (line_of e)) g.3 ∙ cond-true _ _ _ same in
    let block : ending s d ≡ block_at p c t inner = λ j. record { caption = c; start = p; body = q; data_lines = zero-add (length (data_in (p.line + 1) inner)) j; end = s.line } in
    frame_on p _ (on (Inside h b) bs) t ((inner ++ e ∷ []) ++ rest) f.0 (nil_append (inner ++ e ∷ []) rest n) opens
    ∙ (ap (frame q (on (Inside h b) bs)) (append_assoc inner (e ∷ []) rest) ∙ (run inner q h b bs (e ∷ rest) refl fit.0 g.2
    ∙ (frame_on s _ (on Outside (bs ++ ending s d ∷ [])) e rest fit.1.0 n closes
    ∙ (λ j. frame (passed_all_lem q inner (e ∷ []) j) (on Outside (bs ++ block j ∷ [])) rest))))

-- a line that begins with '%'
bound_kind : (l w : List ℕ) → begins (line_of l).columns (37 ∷ w) ≡ true → kind_of (line_of l) ≡ Some Bound
unfolding kind_of
bound_kind [] w e = absurd (false≢true e)
bound_kind (c ∷ l) w e =
    let p = and_parts (eqb c 37) _ e in
    let q : c ≡ 37 = eqb-true c 37 p.0 in
    let n : eqb (length (c ∷ l)) 0 ≡ false = ne_eqb _ 0 (λ z. omega arith) in
    cond-false _ _ _ n ∙ ap kind_by q

header_kind : (l : List ℕ) → is_header (line_of l) ≡ true → kind_of (line_of l) ≡ Some Bound
unfolding is_header
header_kind l e = bound_kind l (codes "=SNX 2.02") e

footer_kind : (l : List ℕ) → is_text footer (line_of l).columns ≡ true → kind_of (line_of l) ≡ Some Bound
unfolding is_text
footer_kind l e = bound_kind l (codes "ENDSNX") (and_parts _ _ e).0

-- the footer is the last line
complete_last : (p : Place) (bs : List Block) (l : List ℕ) → fits l ≡ true → is_text footer (line_of l).columns ≡ true → all_taken bs ≡ true
    → frame p (on Outside bs) (l ∷ []) ≡ Ok (frame_as bs p.line)
unfolding frame
complete_last p bs l b e t =
    cond-true _ _ _ b ∙ (ap (end_by_kind p (on Outside bs) (line_of l)) (footer_kind l e) ∙ (cond-true _ _ _ e ∙ cond-true _ _ _ t))

complete : (parts : List Part) (p : Place) (bs : List Block) (l : List ℕ) → All (λ x. fits x ≡ true) (flat_map written parts ++ l ∷ []) → All Good parts
    → is_text footer (line_of l).columns ≡ true → Apart (bs ++ blocks_of p parts) → all_taken (bs ++ blocks_of p parts) ≡ true
    → frame p (on Outside bs) (flat_map written parts ++ l ∷ []) ≡ Ok (frame_as (bs ++ blocks_of p parts) (passed_all p (flat_map written parts)).line)
complete [] p bs l b g e a t =
    let none = append-nil bs in
    complete_last p bs l b.0 e (ap all_taken (sym none) ∙ t) ∙ ap (λ (x : List Block). Ok (frame_as x p.line)) (sym none)
complete (remark r ∷ parts) p bs l b g e a t =
    frame_on p _ (on Outside bs) r (flat_map written parts ++ l ∷ []) b.0 (nil_append (flat_map written parts) (l ∷ []) refl) (ap (by_kind p (on Outside bs) (line_of r)) g.0)
    ∙ complete parts (passed p (length r)) bs l b.1 g.1 e a t
complete (section c title inner end ∷ parts) p bs l b g e a t =
    let rest = flat_map written parts ++ l ∷ [] in
    let lay : flat_map written (section c title inner end ∷ parts) ++ l ∷ [] ≡ title ∷ ((inner ++ end ∷ []) ++ rest) = append_assoc (title ∷ (inner ++ end ∷ [])) (flat_map written parts) (l ∷ []) in
    let fit = all_split (λ x. fits x ≡ true) (title ∷ (inner ++ end ∷ [])) rest (subst (All (λ x. fits x ≡ true)) lay b) in
    let q = passed_all p (title ∷ (inner ++ end ∷ [])) in
    let over = cross p bs c title inner end rest (nil_append (flat_map written parts) (l ∷ []) refl) (has_apart bs (block_at p c title inner) _ a) fit.0 g.0 in
    let move : bs ++ blocks_of p (section c title inner end ∷ parts) ≡ (bs ++ block_at p c title inner ∷ []) ++ blocks_of q parts = sym (append_assoc bs (block_at p c title inner ∷ []) (blocks_of q parts)) in
    let done = complete parts q (bs ++ block_at p c title inner ∷ []) l fit.1 g.1 e (subst Apart move a) (subst (λ (y : List Block). all_taken y ≡ true) move t) in
    ap (frame p (on Outside bs)) lay ∙ (over ∙ (done ∙ (λ i. Ok (frame_as (sym move i) (passed_all_lem p (title ∷ (inner ++ end ∷ [])) (flat_map written parts) i).line))))

-- ---- the data lines of each block

data_inner : (inner : List (List ℕ)) (n : ℕ) (e : List ℕ) (rest : List (List ℕ)) → All (λ l. fits l ≡ true) (inner ++ e ∷ []) → All Inner inner → OfKind End e
    → data_from n (inner ++ e ∷ rest) ≡ data_in n inner
unfolding data_from
data_inner [] n e rest b a k = cond-true _ _ _ b.0 ∙ ap (λ (o : Option LineKind). data_by o (record { number = n; line = line_of e }) (data_from (n + 1) rest)) k
data_inner (l ∷ inner) n e rest b a k =
    let ih = data_inner inner (n + 1) e rest b.1 a.1 k in
    let x : DataLine = record { number = n; line = line_of l } in
    elim a.0 [
      | inl q ↦ cond-true _ _ _ b.0 ∙ (ap (λ (o : Option LineKind). data_by o x (data_from (n + 1) (inner ++ e ∷ rest))) q
          ∙ (ap (λ (xs : List DataLine). x ∷ xs) ih ∙ ap (λ (o : Option LineKind). data_or o x (data_in (n + 1) inner)) (sym q)))
      | inr q ↦ cond-true _ _ _ b.0 ∙ (ap (λ (o : Option LineKind). data_by o x (data_from (n + 1) (inner ++ e ∷ rest))) q
          ∙ (ih ∙ ap (λ (o : Option LineKind). data_or o x (data_in (n + 1) inner)) (sym q)))
    ]

lines_after : (cs : List ℕ) (xs ys : List (List ℕ)) (p : Place) → lines (drop p.byte cs) ≡ xs ++ ys → lines (drop (passed_all p xs).byte cs) ≡ ys
lines_after cs [] ys p e = e
lines_after cs (x ∷ xs) ys p e = lines_after cs xs ys (passed p (length x)) (lines-past cs p x (xs ++ ys) e)

data_walks : (cs : List ℕ) (parts : List Part) (p : Place) (l : List ℕ) → lines (drop p.byte cs) ≡ flat_map written parts ++ l ∷ [] → All (λ x. fits x ≡ true) (flat_map written parts ++ l ∷ [])
    → All Good parts → map (λ (b : Block). data_at cs b.body) (blocks_of p parts) ≡ data_of p parts
data_walks cs [] p l e b g = refl
data_walks cs (remark r ∷ parts) p l e b g = data_walks cs parts (passed p (length r)) l (lines-past cs p r _ e) b.1 g.1
data_walks cs (section c title inner end ∷ parts) p l e b g =
    let rest = flat_map written parts ++ l ∷ [] in
    let lay : flat_map written (section c title inner end ∷ parts) ++ l ∷ [] ≡ title ∷ ((inner ++ end ∷ []) ++ rest) = append_assoc (title ∷ (inner ++ end ∷ [])) (flat_map written parts) (l ∷ []) in
    let fit = all_split (λ x. fits x ≡ true) (title ∷ (inner ++ end ∷ [])) rest (subst (All (λ x. fits x ≡ true)) lay b) in
    let here : lines (drop (passed p (length title)).byte cs) ≡ inner ++ end ∷ rest = lines-past cs p title _ (e ∙ lay) ∙ append_assoc inner (end ∷ []) rest in
    let one : data_at cs (passed p (length title)) ≡ data_in (p.line + 1) inner = ap (data_from (p.line + 1)) here ∙ data_inner inner (p.line + 1) end rest fit.0.1 g.0.2 g.0.3 in
    let ih = data_walks cs parts (passed_all p (title ∷ (inner ++ end ∷ []))) l (lines_after cs (title ∷ (inner ++ end ∷ [])) rest p (e ∙ lay)) fit.1 g.1 in
    λ i. one i ∷ ih i

-- ---- the whole file

passed_line : (p : Place) (xs : List (List ℕ)) → (passed_all p xs).line ≡ p.line + length xs
passed_line p [] = sym (add-zero _)
passed_line p (x ∷ xs) = let i = passed_line (passed p (length x)) xs in omega arith

count-lines : (first last : List ℕ) (xs : List (List ℕ)) → (passed_all (passed first_place (length first)) xs).line ≡ length (first ∷ (xs ++ last ∷ []))
count-lines first last xs = let i = passed_line (passed first_place (length first)) xs in let n = length-append xs (last ∷ []) in omega arith

-- what is accepted is right
right_from : (cs : List ℕ) (ls : List (List ℕ)) (f : Frame) → length cs ≤ 100000000 → lines cs ≡ ls → frame first_place unread ls ≡ Ok f → Right cs f
unfolding frame
right_from cs [] f s q e = absurd (no_result e)
right_from cs (l ∷ []) f s q e = absurd (alone (kind_of (line_of l)) (frame_line first_place unread l [] f e).1)
  where
    alone : (o : Option LineKind) → end_by_kind first_place unread (line_of l) o ≡ Ok f → ⊥
    alone None x = no_result x
    alone (Some k) x = cond_both (is_header (line_of l)) _ _ (λ r. r ≡ Ok f → ⊥) (λ _. no_result) (λ _. no_result) x
right_from cs (l ∷ (m ∷ ms)) f s q e =
    let t = frame_line first_place unread l (m ∷ ms) f e in
    let u = went_on (stepped first_place unread (line_of l)) (λ h. frame (passed first_place (length l)) h (m ∷ ms)) f t.1 in
    let w = opens (kind_of (line_of l)) u.0 u.1 in
    let r = sound (m ∷ ms) (passed first_place (length l)) f Outside [] tt tt (ap (λ (x : Progress). frame (passed first_place (length l)) x (m ∷ ms)) (sym w.1) ∙ u.2) in
    record {
      small = s;
      fit = subst (All (λ x. fits x ≡ true)) (sym q) (t.0, r.fit);
      first = l;
      parts = r.parts;
      last = r.last;
      whole = q ∙ ap (λ (x : List (List ℕ)). l ∷ x) r.whole;
      header = w.0;
      good = r.good;
      ends = r.ends;
      apart = r.apart;
      taken = r.taken;
      frame = r.frame ∙ ap (λ (n : ℕ). frame_as (blocks_of (passed first_place (length l)) r.parts) n)
          (count-lines l r.last (flat_map written r.parts) ∙ sym (ap length (q ∙ ap (λ (x : List (List ℕ)). l ∷ x) r.whole)));
      walks = data_walks cs r.parts (passed first_place (length l)) r.last (lines-past cs first_place l (m ∷ ms) q ∙ r.whole) (subst (All (λ x. fits x ≡ true)) r.whole r.fit) r.good;
    }
  where
    opens : (o : Option LineKind) (h : Progress) → by_kind first_place unread (line_of l) o ≡ Ok h → (is_header (line_of l) ≡ true) × (h ≡ on Outside [])
    opens None h x = absurd (no_result x)
    opens (Some k) h x = let y = tested (is_header (line_of l)) _ _ h x in (y.0, let z = y.1 in cc)

-- what is right is accepted
right_framed : (cs : List ℕ) (f : Frame) → Right cs f → framed cs ≡ Ok f
right_framed cs f r =
    let rest = flat_map written r.parts ++ r.last ∷ [] in
    let p = passed first_place (length r.first) in
    let fit = subst (All (λ x. fits x ≡ true)) r.whole r.fit in
    let opens : stepped first_place unread (line_of r.first) ≡ Ok (on Outside []) = ap (by_kind first_place unread (line_of r.first)) (header_kind r.first r.header) ∙ cond-true _ _ _ r.header in
    let go = complete r.parts p [] r.last fit.1 r.good r.ends r.apart r.taken in
    cond-false _ _ _ (le-ltb 100000000 (length cs) r.small)
    ∙ (ap (frame first_place unread) r.whole ∙ (frame_on first_place unread (on Outside []) r.first rest fit.0 (nil_append (flat_map written r.parts) (r.last ∷ []) refl) opens
    ∙ (go ∙ (ap (λ (n : ℕ). Ok (frame_as (blocks_of p r.parts) n)) (count-lines r.first r.last (flat_map written r.parts) ∙ sym (ap length r.whole)) ∙ ap Ok (sym r.frame)))))

pub right_exactly : (cs : List ℕ) (f : Frame) → (framed cs ≡ Ok f → Right cs f) × (Right cs f → framed cs ≡ Ok f)
right_exactly cs f = (λ e. let t = denied (ltb 100000000 (length cs)) _ _ f e in right_from cs (lines cs) f (ltb-false 100000000 (length cs) t.0) refl t.1, right_framed cs f)
