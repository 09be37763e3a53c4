-- One append after another.
use Rattle.std.proofs.Common.{◌≡◌, ℕ, ◌+◌, Bool, true, false, cond, ltb, leb, List, [], ◌∷◌, ◌++◌, length, is_ok, Ok, Err, Result, sym, refl, ap, ◌∙◌, subst, arith}
use Rattle.copies.specs.Appends.{Appends}
use Rattle.copies.specs.Copy.{ended}
use Rattle.media.specs.declared.Full.{Full}
use Rattle.std.proofs.lemmas.List.{append_assoc, append-nil, length-append}
use Rattle.std.proofs.lemmas.Bool.{le-leb, lt-ltb}

pub ended-append : (ls ms : List (List ℕ)) → ended (ls ++ ms) ≡ ended ls ++ ended ms
ended-append [] ms = refl
ended-append (l ∷ ls) ms =
    ap (λ x. l ++ (10 ∷ x)) (ended-append ls ms) ∙ sym (append_assoc l (10 ∷ ended ls) (ended ms))

-- no lines
pub appends_none : (had : List ℕ) (room : ℕ) → Appends had room (Ok tt) had room []
appends_none had room = record { fits = λ h. (refl, sym (append-nil had)); kept = refl }

ok_from : (a : Result (Unit {0}) Full) → is_ok a ≡ true → a ≡ Ok tt
ok_from (Ok x) e = refl
ok_from (Err x) e = let z : ◌≡◌ {A = ℕ} 0 1 = cc in absurd (omega arith)

-- one line, by what appending the text of a line promises
pub appends_line : (had : List ℕ) (room : ℕ) (a : Result (Unit {0}) Full) (has : List ℕ) (left : ℕ) (text : List ℕ) → is_ok a ≡ leb (length had + (length text + 1)) room
    → has ≡ cond (is_ok a) (had ++ (text ++ 10 ∷ [])) had → left ≡ room → (l : List ℕ) → text ≡ l → Appends had room a has left (l ∷ [])
appends_line had room a has left text granted after kept l e = record {
  fits = λ h.
      let n : length (l ++ 10 ∷ []) ≡ length l + 1 = length-append l (10 ∷ []) in
      let k : length text ≡ length l = ap length e in
      let t : is_ok a ≡ true = granted ∙ le-leb (length had + (length text + 1)) room (omega arith) in
      (ok_from a t, after ∙ ap (λ b. cond b (had ++ (text ++ 10 ∷ [])) had) t ∙ ap (λ x. had ++ (x ++ 10 ∷ [])) e);
  kept = kept;
}

-- a byte and then the rest of its line
pub appends_signed : (had : List ℕ) (room sign : ℕ) (mid : List ℕ) (now : ℕ) (a : Result (Unit {0}) Full) (has : List ℕ) (left : ℕ) (l : List ℕ)
    → mid ≡ had ++ sign ∷ [] → now ≡ room → Appends mid now a has left (l ∷ []) → Appends had room a has left ((sign ∷ l) ∷ [])
appends_signed had room sign mid now a has left l m k rest = record {
  fits = λ h.
      let n : length mid ≡ length had + 1 = ap length m ∙ length-append had (sign ∷ []) in
      let f = rest.fits (omega arith) in
      (f.0, f.1 ∙ ap (λ x. x ++ (l ++ 10 ∷ [])) m ∙ append_assoc had (sign ∷ []) (l ++ 10 ∷ []));
  kept = rest.kept ∙ k;
}

-- where a byte is refused, no line fits
pub appends_refused : (had : List ℕ) (room : ℕ) (a : Result (Unit {0}) Full) (has : List ℕ) (left : ℕ) (s : ℕ) (l : List ℕ) → false ≡ ltb (length had) room → left ≡ room
    → Appends had room a has left ((s ∷ l) ∷ [])
appends_refused had room a has left s l granted kept = record {
  fits = λ h.
      let t : ltb (length had) room ≡ true = lt-ltb (length had) room (omega arith) in
      let z : ◌≡◌ {A = Bool} false true = granted ∙ t in
      let y : ◌≡◌ {A = ℕ} 0 1 = cc in
      absurd (omega arith);
  kept = kept;
}

-- lines after lines
pub appends_then : {had : List ℕ} {room : ℕ} {mid : List ℕ} {rest : ℕ} {a : Result (Unit {0}) Full} {has : List ℕ} {left : ℕ} {ls ms : List (List ℕ)}
    → Appends had room (Ok tt) mid rest ls → Appends mid rest a has left ms → Appends had room a has left (ls ++ ms)
appends_then {had} {room} {mid} {rest} {a} {has} {left} {ls} {ms} p q = record {
  fits = λ h.
      let e = ended-append ls ms in
      let n : length (ended (ls ++ ms)) ≡ length (ended ls) + length (ended ms) = ap length e ∙ length-append (ended ls) (ended ms) in
      let f = p.fits (omega arith) in
      let m : length mid ≡ length had + length (ended ls) = ap length f.1 ∙ length-append had (ended ls) in
      let g = q.fits (omega (arith, p.kept)) in
      (g.0, g.1 ∙ ap (λ x. x ++ ended ms) f.1 ∙ append_assoc had (ended ls) (ended ms) ∙ ap (λ x. had ++ x) (sym e));
  kept = q.kept ∙ p.kept;
}

-- where the first lines are refused, they do not fit with more
pub appends_stop : {had : List ℕ} {room : ℕ} {f : Full} {has : List ℕ} {left : ℕ} {ls : List (List ℕ)}
    → Appends had room (Err f) has left ls → (a : Result (Unit {0}) Full) (ms : List (List ℕ)) → Appends had room a has left (ls ++ ms)
appends_stop {had} {room} {f} {has} {left} {ls} p a ms = record {
  fits = λ h.
      let e = ended-append ls ms in
      let n : length (ended (ls ++ ms)) ≡ length (ended ls) + length (ended ms) = ap length e ∙ length-append (ended ls) (ended ms) in
      let z : Err f ≡ Ok tt = (p.fits (omega arith)).0 in
      let y : ◌≡◌ {A = ℕ} 0 1 = cc in
      absurd (omega arith);
  kept = p.kept;
}

-- the same lines
pub appends_as : {had : List ℕ} {room : ℕ} {a : Result (Unit {0}) Full} {has : List ℕ} {left : ℕ} {ls ms : List (List ℕ)} → ls ≡ ms → Appends had room a has left ls → Appends had room a has left ms
appends_as {had} {room} {a} {has} {left} e p = subst (λ x. Appends had room a has left x) e p

-- ---- in a loop

-- whatever adds the lines ms to what has been made so far adds all the lines ls
pub record Onward (had : List ℕ) (room : ℕ) (mid : List ℕ) (rest : ℕ) (ms ls : List (List ℕ)) : Type 0 where
  pub go : (a : Result (Unit {0}) Full) (has : List ℕ) (left : ℕ) → Appends mid rest a has left ms → Appends had room a has left ls

pub onward_start : (had : List ℕ) (room : ℕ) (ls : List (List ℕ)) → Onward had room had room ls ls
onward_start had room ls = record { go = λ a has left p. p }

pub onward_more : {had : List ℕ} {room : ℕ} {mid : List ℕ} {rest : ℕ} {ms ls : List (List ℕ)} → Onward had room mid rest ms ls
    → (ps qs : List (List ℕ)) → ms ≡ ps ++ qs → {next : List ℕ} {more : ℕ} → Appends mid rest (Ok tt) next more ps → Onward had room next more qs ls
onward_more {had} {room} {mid} {rest} {ms} {ls} o ps qs e {next} {more} p = record {
  go = λ a has left q. o.go a has left (subst (λ x. Appends mid rest a has left x) (sym e) (appends_then p q));
}

pub onward_stop : {had : List ℕ} {room : ℕ} {mid : List ℕ} {rest : ℕ} {ms ls : List (List ℕ)} → Onward had room mid rest ms ls
    → (ps qs : List (List ℕ)) → ms ≡ ps ++ qs → {f : Full} {next : List ℕ} {more : ℕ} → Appends mid rest (Err f) next more ps → (a : Result (Unit {0}) Full) → Appends had room a next more ls
onward_stop {had} {room} {mid} {rest} {ms} {ls} o ps qs e {f} {next} {more} p a =
    o.go a next more (subst (λ x. Appends mid rest a next more x) (sym e) (appends_stop p a qs))

pub onward_end : {had : List ℕ} {room : ℕ} {mid : List ℕ} {rest : ℕ} {ms ls : List (List ℕ)} → Onward had room mid rest ms ls → ms ≡ [] → Appends had room (Ok tt) mid rest ls
onward_end {had} {room} {mid} {rest} {ms} {ls} o e =
    o.go (Ok tt) mid rest (subst (λ x. Appends mid rest (Ok tt) mid rest x) (sym e) (appends_none mid rest))
