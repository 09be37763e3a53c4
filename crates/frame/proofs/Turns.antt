-- The recursion over lines, and the walk over byte places.
use Rattle.std.proofs.Common.{◌≡◌, ℕ, suc, ◌+◌, ◌<◌, ◌≤◌, true, false, cond, eqb, List, [], ◌∷◌, length, drop, Some, None, Ok, Err, Option, Result, sym, refl, ap, ◌∙◌, inl, inr, add-one, arith}
use Rattle.frame.proofs.Titled.{Orderly, data_lines, stepped-leaves}
use Rattle.frame.specs.Frames.{at, frame, framed, ended, stepped, continued, unread, first_place}
use Rattle.frame.specs.Lines.{lines, glue, first_line, fits, line_of, fetched, passed, is_nil}
use Rattle.frame.specs.declared.line.Line.{Line}
use Rattle.frame.specs.declared.place.Place.{Place}
use Rattle.frame.specs.declared.walk.Frame.{Frame}
use Rattle.frame.specs.declared.walk.Progress.{Progress}
use Rattle.refusals.specs.declared.Fault.{Fault}
use Rattle.refusals.specs.declared.Fault.TheVariants.{UnfitLine, NoHeaderLine}
use Rattle.refusals.specs.declared.Refusal.{Refusal}
use Rattle.std.proofs.lemmas.List.{at_drop_all, drop-drop, length-drop}
use Rattle.std.proofs.lemmas.Bool.{cond-true, cond-false, cases_Bool, cases_lt, false≢true, le-ltb}

-- a content that is not empty has a first line, and the lines of what follows it
pub lines_cons : (c : ℕ) (cs : List ℕ)
    → lines (c ∷ cs) ≡ first_line (c ∷ cs) ∷ lines (drop (length (first_line (c ∷ cs)) + 1) (c ∷ cs))
lines_cons c [] = elim (cases_Bool (eqb c 10)) [ inl e ↦ rw e refl | inr e ↦ rw e refl ]
lines_cons c (d ∷ ds) =
    let rest : lines (d ∷ ds) ≡ first_line (d ∷ ds) ∷ lines (drop (length (first_line (d ∷ ds)) + 1) (d ∷ ds)) = lines_cons d ds in
    elim (cases_Bool (eqb c 10)) [
      | inl e ↦ rw e refl
      | inr e ↦ rw (e, add-one (suc (length (first_line (d ∷ ds))))) (ap (glue c) rest ∙ rw (add-one (length (first_line (d ∷ ds)))) refl)
    ]

pub nil_lines : (cs : List ℕ) → is_nil (lines cs) ≡ is_nil cs
nil_lines [] = refl
nil_lines (c ∷ cs) = rw (lines_cons c cs) refl

-- the first line of a content that is fetched
first_read : (rest : List ℕ) (ln : Line) → Ok (Some ln) ≡ fetched rest
    → (fits (first_line rest) ≡ true) × (ln ≡ line_of (first_line rest)) × (lines rest ≡ first_line rest ∷ lines (drop (ln.len + 1) rest))
first_read [] ln e = let z : ◌≡◌ {A = ℕ} 0 1 = cc in absurd (omega arith)
first_read (c ∷ cs) ln e = elim (cases_Bool (fits (first_line (c ∷ cs)))) [
  | inl b ↦
      let s : ◌≡◌ {A = Result (Option Line) Fault} (Ok (Some ln)) (Ok (Some (line_of (first_line (c ∷ cs))))) = e ∙ cond-true _ _ _ b in
      let t : ln ≡ line_of (first_line (c ∷ cs)) = cc in
      (b, t, rw t (lines_cons c cs))
  | inr b ↦
      let s : ◌≡◌ {A = Result (Option Line) Fault} (Ok (Some ln)) (Err UnfitLine) = e ∙ cond-false _ _ _ b in
      let z : ◌≡◌ {A = ℕ} 0 1 = cc in absurd (omega arith)
]

-- what a line that was fetched at byte b says of the lines from there on
pub record Read (cs : List ℕ) (b : ℕ) (ln : Line) : Type 0 where
  pub text : List ℕ
  pub fit : fits text ≡ true
  pub same : line_of text ≡ ln
  pub parts : lines (drop b cs) ≡ text ∷ lines (drop (b + ln.len + 1) cs)

pub read : (cs : List ℕ) (b : ℕ) (ln : Line) → Ok (Some ln) ≡ fetched (drop b cs) → Read cs b ln
read cs b ln e =
    let k = first_read (drop b cs) ln e in
    let sum : b + (ln.len + 1) ≡ b + ln.len + 1 = omega arith in
    let far : drop (ln.len + 1) (drop b cs) ≡ drop (b + ln.len + 1) cs = drop-drop (ln.len + 1) b cs ∙ ap (λ (n : ℕ). drop n cs) sum in
    record {
      text = first_line (drop b cs);
      fit = k.0;
      same = sym k.1;
      parts = k.2 ∙ ap (λ (r : List ℕ). first_line (drop b cs) ∷ lines r) far;
    }

first-within : (cs : List ℕ) → length (first_line cs) ≤ length cs
first-within [] = omega arith
first-within (c ∷ cs) = let h = first-within cs in elim (cases_Bool (eqb c 10)) [ inl e ↦ rw e (omega arith) | inr e ↦ rw e (omega arith) ]

-- a line that was fetched lies within the content
pub read_within : (cs : List ℕ) (at : ℕ) (ln : Line) → at ≤ length cs → Ok (Some ln) ≡ fetched (drop at cs) → at + ln.len ≤ length cs
read_within cs at ln h e =
    let same : ln.len ≡ length (first_line (drop at cs)) = ap (λ (m : Line). m.len) (first_read (drop at cs) ln e).1 in
    omega (arith, first-within (drop at cs), length-drop at cs)

-- one turn: the recursion over the lines, in the words of the walk
pub turn : (cs : List ℕ) (p : Place) (f : Progress) (ln : Line) → Ok (Some ln) ≡ fetched (drop p.byte cs)
    → frame p f (lines (drop p.byte cs)) ≡ cond (is_nil (drop (p.byte + ln.len + 1) cs)) (ended p f ln)
    (continued (stepped p f ln) (λ g. frame (passed p ln.len) g (lines (drop (p.byte + ln.len + 1) cs))))
unfolding frame
turn cs p f ln e =
    let k = read cs p.byte ln e in
    let fit = k.fit in
    let nil : is_nil (lines (drop (p.byte + ln.len + 1) cs)) ≡ is_nil (drop (p.byte + ln.len + 1) cs) = nil_lines _ in
    let W : Line → Result Frame Refusal = λ m. cond (is_nil (drop (p.byte + ln.len + 1) cs)) (ended p f m)
    (continued (stepped p f m) (λ g. frame (passed p m.len) g (lines (drop (p.byte + ln.len + 1) cs)))) in
    ap (frame p f) k.parts ∙ (rw (fit, nil) refl ∙ ap W k.same)

pub turn_last : (cs : List ℕ) (p : Place) (f : Progress) (ln : Line) → Ok (Some ln) ≡ fetched (drop p.byte cs) → true ≡ is_nil (drop (p.byte + ln.len + 1) cs)
    → ended p f ln ≡ frame p f (lines (drop p.byte cs))
turn_last cs p f ln e n = sym (turn cs p f ln e ∙ cond-true _ _ _ (sym n))

pub turn_stops : (cs : List ℕ) (p : Place) (f : Progress) (ln : Line) (b : Refusal) → Ok (Some ln) ≡ fetched (drop p.byte cs) → false ≡ is_nil (drop (p.byte + ln.len + 1) cs)
    → Err b ≡ stepped p f ln → Err b ≡ frame p f (lines (drop p.byte cs))
turn_stops cs p f ln b e n s =
    let K : Result Progress Refusal → Result Frame Refusal = λ r. continued r (λ g. frame (passed p ln.len) g (lines (drop (p.byte + ln.len + 1) cs))) in
    sym (turn cs p f ln e ∙ (cond-false _ _ _ (sym n) ∙ ap K (sym s)))

pub turn_goes : (cs : List ℕ) (p : Place) (f g : Progress) (ln : Line) → Ok (Some ln) ≡ fetched (drop p.byte cs) → false ≡ is_nil (drop (p.byte + ln.len + 1) cs)
    → Ok g ≡ stepped p f ln → frame (passed p ln.len) g (lines (drop (p.byte + ln.len + 1) cs)) ≡ frame p f (lines (drop p.byte cs))
turn_goes cs p f g ln e n s =
    let K : Result Progress Refusal → Result Frame Refusal = λ r. continued r (λ g. frame (passed p ln.len) g (lines (drop (p.byte + ln.len + 1) cs))) in
    sym (turn cs p f ln e ∙ (cond-false _ _ _ (sym n) ∙ ap K (sym s)))

pub turn_unfit : (cs : List ℕ) (p : Place) (f : Progress) (x : Fault) → Err x ≡ fetched cs → Err (at x p) ≡ frame p f (lines cs)
unfolding frame
turn_unfit [] p f x e = let z : ◌≡◌ {A = ℕ} 0 1 = cc in absurd (omega arith)
turn_unfit (c ∷ cs) p f x e = elim (cases_Bool (fits (first_line (c ∷ cs)))) [
  | inl b ↦
      let s : ◌≡◌ {A = Result (Option Line) Fault} (Err x) (Ok (Some (line_of (first_line (c ∷ cs))))) = e ∙ cond-true _ _ _ b in
      let z : ◌≡◌ {A = ℕ} 0 1 = cc in absurd (omega arith)
  | inr b ↦
      let s : ◌≡◌ {A = Result (Option Line) Fault} (Err x) (Err UnfitLine) = e ∙ cond-false _ _ _ b in
      let same : x ≡ UnfitLine = cc in
      rw (lines_cons c cs, b, same) refl
]

pub turn_none : (cs : List ℕ) (p : Place) (f : Progress) → Ok None ≡ fetched cs → Err (at NoHeaderLine p) ≡ frame p f (lines cs)
unfolding frame
turn_none [] p f e = refl
turn_none (c ∷ cs) p f e = elim (cases_Bool (fits (first_line (c ∷ cs)))) [
  | inl b ↦
      let s : ◌≡◌ {A = Result (Option Line) Fault} (Ok None) (Ok (Some (line_of (first_line (c ∷ cs))))) = e ∙ cond-true _ _ _ b in
      let z : ◌≡◌ {A = ℕ} 0 1 = cc in absurd (omega arith)
  | inr b ↦
      let s : ◌≡◌ {A = Result (Option Line) Fault} (Ok None) (Err UnfitLine) = e ∙ cond-false _ _ _ b in
      let z : ◌≡◌ {A = ℕ} 0 1 = cc in absurd (omega arith)
]

-- what the walk keeps
pub record Going (cs : List ℕ) (p : Place) (f : Progress) : Type 0 where
  pub within : p.byte ≤ length cs
  pub small : length cs ≤ 100000000
  pub number : p.line ≤ p.byte + 1
  pub count : data_lines f.stage ≤ p.byte
  pub orderly : Orderly f
  pub rest : frame p f (lines (drop p.byte cs)) ≡ frame first_place unread (lines cs)

pub within_more : (cs : List ℕ) (i : ℕ) → false ≡ is_nil (drop i cs) → i < length cs
within_more cs i e = elim (cases_lt i (length cs)) [
  | inl h ↦ h
  | inr h ↦ let s : is_nil (drop i cs) ≡ true = at_drop_all is_nil cs i h in let z : false ≡ true = e ∙ s in absurd (false≢true z)
]

pub going_more : (cs : List ℕ) (p q : Place) (f g : Progress) (ln : Line) → Going cs p f → Ok (Some ln) ≡ fetched (drop p.byte cs)
    → false ≡ is_nil (drop (p.byte + ln.len + 1) cs) → Ok g ≡ stepped p f ln → q ≡ passed p ln.len → Going cs q g
going_more cs p q f g ln k e n s m =
    let h = within_more cs _ n in
    let b : q.byte ≡ p.byte + ln.len + 1 = ap (λ (q : Place). q.byte) m in
    let l : q.line ≡ p.line + 1 = ap (λ (q : Place). q.line) m in
    let t = stepped-leaves p f g ln k.orderly s in
    record {
      within = omega arith;
      small = k.small;
      number = omega (arith, k.number);
      count = omega (arith, k.count, t.1);
      orderly = t.0;
      rest = ap (λ (q : Place). frame q g (lines (drop q.byte cs))) m ∙ (turn_goes cs p f g ln e n s ∙ k.rest);
    }

-- what is left decides
pub going_all : (cs : List ℕ) (p : Place) (f : Progress) → Going cs p f → frame p f (lines (drop p.byte cs)) ≡ framed cs
going_all cs p f k = k.rest ∙ sym (cond-false _ _ _ (le-ltb 100000000 (length cs) k.small))

-- a line that was fetched begins within the content, and ends there
pub read_bound : (cs : List ℕ) (at : ℕ) (ln : Line) → Ok (Some ln) ≡ fetched (drop at cs) → (at < length cs) × (at + ln.len ≤ length cs)
read_bound cs at ln e = elim (cases_lt at (length cs)) [
  | inl h ↦ (h, read_within cs at ln (omega arith) e)
  | inr h ↦ let s : fetched (drop at cs) ≡ Ok None = at_drop_all fetched cs at h in let z : ◌≡◌ {A = ℕ} 0 1 = cc in absurd (omega arith)
]
