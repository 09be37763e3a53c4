-- The walk over data lines, byte place by byte place.
use Rattle.std.proofs.Common.{◌≡◌, ℕ, ◌+◌, ◌-◌, ◌≤◌, leb, List, [], ◌∷◌, length, drop, Some, None, Ok, Err, Option, Result, sym, refl, ap, ◌∙◌, subst, inl, inr, arith}
use Rattle.frame.proofs.Turns.{read, lines_cons}
use Rattle.frame.specs.DataLines.{Walked, walked, walk_by, stay, walked_from, data_from, data_by, data_at, before, Yields}
use Rattle.frame.specs.Lines.{lines, first_line, fits, line_of, fetched, passed, kind_of}
use Rattle.frame.specs.declared.data.DataLine.{DataLine}
use Rattle.frame.specs.declared.line.Line.{Line}
use Rattle.frame.specs.declared.line.LineKind.{LineKind}
use Rattle.frame.specs.declared.line.LineKind.TheVariants.{Bound, Comment, Title, End, Data}
use Rattle.frame.specs.declared.place.Place.{Place}
use Rattle.refusals.specs.declared.Fault.{Fault}
use Rattle.std.specs.Result.{result_ok}
use Rattle.std.proofs.lemmas.List.{drop-drop}
use Rattle.std.proofs.lemmas.Bool.{cond-true, cases_Bool, and_parts, and_from, le-leb, leb-true}

-- one line on
pub walk_turn : (cs : List ℕ) (p : Place) (ln : Line) (o : Option LineKind) → Ok (Some ln) ≡ fetched (drop p.byte cs) → o ≡ kind_of ln
    → walked p (lines (drop p.byte cs)) ≡ walk_by o (record { found = Some (record { number = p.line; line = ln }); place = passed p ln.len })
    (walked (passed p ln.len) (lines (drop (p.byte + ln.len + 1) cs))) (stay p)
unfolding walked
walk_turn cs p ln o e k =
    let r = read cs p.byte ln e in
    let fit = r.fit in
    let W : Line → Walked = λ m. walk_by (kind_of m) (record { found = Some (record { number = p.line; line = m }); place = passed p m.len })
    (walked (passed p m.len) (lines (drop (p.byte + ln.len + 1) cs))) (stay p) in
    ap (walked p) r.parts ∙ (rw fit refl ∙ (ap W r.same
    ∙ ap (λ (o : Option LineKind). walk_by o (record { found = Some (record { number = p.line; line = ln }); place = passed p ln.len })
    (walked (passed p ln.len) (lines (drop (p.byte + ln.len + 1) cs))) (stay p)) (sym k)))

-- what a line that was asked for by `ok` says
pub fetched_ok : (cs : List ℕ) (r : Result (Option Line) Fault) (o : Option (Option Line)) (x y : Option Line) → r ≡ fetched cs → o ≡ result_ok r → o ≡ Some x → x ≡ y → Ok y ≡ fetched cs
fetched_ok cs (Ok z) o x y e f g h = let same : y ≡ z = cc in ap Ok same ∙ e
fetched_ok cs (Err d) o x y e f g h = let z : ◌≡◌ {A = ℕ} 0 1 = cc in absurd (omega arith)

-- no line, or one that does not fit
pub walk_ends : (cs : List ℕ) (p : Place) → Ok None ≡ fetched cs → walked p (lines cs) ≡ stay p
unfolding walked
walk_ends [] p e = refl
walk_ends (c ∷ cs) p e = elim (cases_Bool (fits (first_line (c ∷ cs)))) [
  | inl b ↦ let s : ◌≡◌ {A = Result (Option Line) Fault} (Ok None) (Ok (Some (line_of (first_line (c ∷ cs))))) = e ∙ cond-true _ _ _ b in let z : ◌≡◌ {A = ℕ} 0 1 = cc in absurd (omega arith)
  | inr b ↦ rw (lines_cons c cs, b) refl
]

pub walk_stops : (cs : List ℕ) (p : Place) (r : Result (Option Line) Fault) (o : Option (Option Line)) → r ≡ fetched cs → o ≡ result_ok r → o ≡ None → walked p (lines cs) ≡ stay p
unfolding walked
walk_stops [] p r o e f g = refl
walk_stops (c ∷ cs) p r o e f g = elim (cases_Bool (fits (first_line (c ∷ cs)))) [
  | inl b ↦
      let s : r ≡ Ok (Some (line_of (first_line (c ∷ cs)))) = e ∙ cond-true _ _ _ b in
      let t : None ≡ Some (Some (line_of (first_line (c ∷ cs)))) = sym g ∙ (f ∙ ap result_ok s) in
      let z : ◌≡◌ {A = ℕ} 0 1 = cc in absurd (omega arith)
  | inr b ↦ rw (lines_cons c cs, b) refl
]

pub walk_other : (s : LineKind) (x y z : Walked) → (s ≡ Data → ⊥) → (s ≡ Comment → ⊥) → walk_by (Some s) x y z ≡ z
walk_other Bound x y z d c = refl
walk_other Comment x y z d c = absurd (c refl)
walk_other Title x y z d c = refl
walk_other End x y z d c = refl
walk_other Data x y z d c = absurd (d refl)

-- after the first line stand the others
pub lines_next : (xs l : List ℕ) (ls : List (List ℕ)) → lines xs ≡ l ∷ ls → lines (drop (length l + 1) xs) ≡ ls
lines_next [] l ls e = let z : ◌≡◌ {A = ℕ} 0 1 = cc in absurd (omega arith)
lines_next (c ∷ cs) l ls e =
    let k = lines_cons c cs in
    let f : first_line (c ∷ cs) ≡ l = cc in
    let r : lines (drop (length (first_line (c ∷ cs)) + 1) (c ∷ cs)) ≡ ls = cc in
    ap (λ (m : List ℕ). lines (drop (length m + 1) (c ∷ cs))) (sym f) ∙ r

pub lines-past : (cs : List ℕ) (p : Place) (l : List ℕ) (ls : List (List ℕ)) → lines (drop p.byte cs) ≡ l ∷ ls → lines (drop (passed p (length l)).byte cs) ≡ ls
lines-past cs p l ls e =
    let sum : p.byte + (length l + 1) ≡ p.byte + length l + 1 = omega arith in
    ap (λ (n : ℕ). lines (drop n cs)) (sym sum) ∙ (ap lines (sym (drop-drop (length l + 1) p.byte cs)) ∙ lines_next (drop p.byte cs) l ls e)

-- a step takes the first of the data lines that are left
first_by : (cs : List ℕ) (p : Place) (l : List ℕ) (ls : List (List ℕ)) (o : Option LineKind) → lines (drop (passed p (length l)).byte cs) ≡ ls
    → data_from (p.line + 1) ls ≡ before (walked (passed p (length l)) ls).found (data_at cs (walked (passed p (length l)) ls).place)
    → let w : Walked = walk_by o (record { found = Some (record { number = p.line; line = line_of l }); place = passed p (length l) }) (walked (passed p (length l)) ls) (stay p) in
    data_by o (record { number = p.line; line = line_of l }) (data_from (p.line + 1) ls) ≡ before w.found (data_at cs w.place)
first_by cs p l ls None e i = refl
first_by cs p l ls (Some Bound) e i = refl
first_by cs p l ls (Some Comment) e i = i
first_by cs p l ls (Some Title) e i = refl
first_by cs p l ls (Some End) e i = refl
first_by cs p l ls (Some Data) e i = ap (λ (r : List (List ℕ)). record { number = p.line; line = line_of l } ∷ data_from (p.line + 1) r) (sym e)

pub walk_first : (cs : List ℕ) (ls : List (List ℕ)) (p : Place) → lines (drop p.byte cs) ≡ ls
    → data_from p.line ls ≡ before (walked p ls).found (data_at cs (walked p ls).place)
unfolding data_from walked
walk_first cs [] p e = refl
walk_first cs (l ∷ ls) p e =
    let next = lines-past cs p l ls e in
    let i = walk_first cs ls (passed p (length l)) next in
    elim (cases_Bool (fits l)) [
      | inl b ↦ rw b (first_by cs p l ls (kind_of (line_of l)) next i)
      | inr b ↦ rw b refl
    ]

on_by : (p : Place) (l : List ℕ) (ls : List (List ℕ)) (o : Option LineKind) → p.line - 1 ≤ p.byte
    → (walked (passed p (length l)) ls).place.line - 1 ≤ (walked (passed p (length l)) ls).place.byte
    → let w : Walked = walk_by o (record { found = Some (record { number = p.line; line = line_of l }); place = passed p (length l) }) (walked (passed p (length l)) ls) (stay p) in
    w.place.line - 1 ≤ w.place.byte
on_by p l ls None h i = h
on_by p l ls (Some Bound) h i = h
on_by p l ls (Some Comment) h i = i
on_by p l ls (Some Title) h i = h
on_by p l ls (Some End) h i = h
on_by p l ls (Some Data) h i = omega arith

-- the number of a line never passes its byte place
pub walk_on : (ls : List (List ℕ)) (p : Place) → p.line - 1 ≤ p.byte → (walked p ls).place.line - 1 ≤ (walked p ls).place.byte
unfolding walked
walk_on [] p h = h
walk_on (l ∷ ls) p h =
    let i = walk_on ls (passed p (length l)) (omega arith) in
    elim (cases_Bool (fits l)) [
      | inl b ↦ rw b (on_by p l ls (kind_of (line_of l)) h i)
      | inr b ↦ rw b h
    ]

pub walk_yields : (cs : List ℕ) (p q : Place) (r : Option DataLine) → r ≡ (walked_from cs p).found → q ≡ (walked_from cs p).place → Yields cs p r q
walk_yields cs p q r f e = record {
  first = λ w.
      let s : walked_from cs p ≡ walked p (lines (drop p.byte cs)) = cond-true _ _ _ w in
      let f' : r ≡ (walked p (lines (drop p.byte cs))).found = f ∙ ap (λ (x : Walked). x.found) s in
      let e' : q ≡ (walked p (lines (drop p.byte cs))).place = e ∙ ap (λ (x : Walked). x.place) s in
      walk_first cs (lines (drop p.byte cs)) p refl ∙ sym (λ i. before (f' i) (data_at cs (e' i)));
  on = λ w.
      let s : walked_from cs p ≡ walked p (lines (drop p.byte cs)) = cond-true _ _ _ w in
      let e' : (walked p (lines (drop p.byte cs))).place ≡ q = sym (e ∙ ap (λ (x : Walked). x.place) s) in
      let k = and_parts (leb (length cs) 100000000) (leb (p.line - 1) p.byte) w in
      let h = walk_on (lines (drop p.byte cs)) p (leb-true _ _ k.1) in
      and_from _ _ k.0 (le-leb _ _ (subst (λ (x : Place). x.line - 1 ≤ x.byte) e' h));
}

pub walkable_true : (cs : List ℕ) (p : Place) → length cs ≤ 100000000 → p.line - 1 ≤ p.byte → walked_from cs p ≡ walked p (lines (drop p.byte cs))
walkable_true cs p s n = cond-true _ _ _ (and_from _ _ (le-leb _ _ s) (le-leb _ _ n))
