-- Lemmas on a content that is walked from a place on.
use Rattle.std.proofs.Common.{◌≡◌, ℕ, ◌+◌, ◌-◌, ◌<◌, ◌≤◌, false, cond, eqb, List, [], ◌∷◌, ◌++◌, length, get_or, take, drop, set, replicate, Some, None, Ok, Err, sym, refl, ap, ◌∙◌, inl, inr, arith}
use Rattle.frame.specs.Lines.{first_line, fits, line_of, fetched}
use Rattle.refusals.specs.declared.Fault.TheVariants.{UnfitLine}
use Rattle.std.proofs.lemmas.List.{at_drop_more, take_more_set, drop_more, drop-drop, length-set, length-take-le, length-append, append_assoc, drop-set-lt, drop-replicate}
use Rattle.std.proofs.lemmas.Bool.{and_left, lt-leb, ne_eqb, cases_lt, lt-ltb, le-ltb, cond-true, cond-false}
use Rattle.media.specs.Media.{byte_at}

-- a place within
pub byte_some : (cs : List ℕ) (i b : ℕ) → byte_at cs i ≡ Some b → (i < length cs) × (get_or cs i 0 ≡ b)
byte_some cs i b e = elim (cases_lt i (length cs)) [
  | inl h ↦ (h, let f : byte_at cs i ≡ Some (get_or cs i 0) = cond-true _ _ _ (lt-ltb _ _ h) in cc)
  | inr h ↦ let f : byte_at cs i ≡ None = cond-false _ _ _ (le-ltb _ _ h) in let z : ◌≡◌ {A = ℕ} 0 1 = cc in omega arith
]

-- the first line, one byte on
pub first_more : (cs : List ℕ) (i b : ℕ) → byte_at cs i ≡ Some b → (b ≡ 10 → ⊥) → first_line (drop i cs) ≡ b ∷ first_line (drop (i + 1) cs)
first_more cs i b e n =
    let s = byte_some cs i b e in
    let step : first_line (drop i cs) ≡ cond (eqb (get_or cs i 0) 10) [] (get_or cs i 0 ∷ first_line (drop (i + 1) cs)) = at_drop_more first_line cs i 0 s.0 in
    step ∙ rw s.1 (cond-false _ _ _ (ne_eqb b 10 n))

-- what the copying loop of `fetch` keeps
pub record Copied (cs : List ℕ) (at len : ℕ) (bytes : List ℕ) : Type 0 where
  pub within : at + len ≤ length cs
  pub short : len ≤ 80
  pub long : length bytes ≡ 80
  pub blank : drop len bytes ≡ replicate (80 - len) 32
  pub line : first_line (drop at cs) ≡ take len bytes ++ first_line (drop (at + len) cs)

pub copied_more : (cs : List ℕ) (at len b : ℕ) (bytes : List ℕ) → Copied cs at len bytes → byte_at cs (at + len) ≡ Some b → (b ≡ 10 → ⊥)
    → (len ≡ 80 → ⊥) → Copied cs at (len + 1) (set bytes len b)
copied_more cs at len b bytes k e n m =
    let s = byte_some cs (at + len) b e in
    let room : len < length bytes = let l = k.long in let t = k.short in omega arith in
    record {
      within = let t = s.0 in omega arith;
      short = let t = k.short in omega arith;
      long = length-set bytes len b ∙ k.long;
      blank =
          let eq : drop len bytes ≡ get_or bytes len 0 ∷ drop (len + 1) bytes = drop_more bytes len 0 room in
          let low : len < len + 1 = omega arith in
          let gone : drop (len + 1) (drop 0 (set bytes len b)) ≡ drop (len + 1) bytes = drop-set-lt (len + 1) bytes len b low in
          let one : drop 1 (drop len bytes) ≡ drop (len + 1) bytes = drop-drop 1 len bytes in
          let two : drop 1 (replicate (80 - len) 32) ≡ replicate (80 - len - 1) 32 = drop-replicate 1 (80 - len) 32 in
          let three : 80 - len - 1 ≡ 80 - (len + 1) = omega arith in
          gone ∙ (sym one ∙ (ap (drop 1) k.blank ∙ (two ∙ ap (λ (z : ℕ). replicate z 32) three)));
      line =
          let more : first_line (drop (at + len) cs) ≡ b ∷ first_line (drop (at + len + 1) cs) = first_more cs (at + len) b e n in
          let sum : at + len + 1 ≡ at + (len + 1) = omega arith in
          let front : take (len + 1) (set bytes len b) ≡ take len bytes ++ b ∷ [] = take_more_set bytes len b room in
          k.line ∙ (ap (λ (t : List ℕ). take len bytes ++ t) more ∙ (sym (append_assoc (take len bytes) (b ∷ []) (first_line (drop (at + len + 1) cs)))
          ∙ (ap (λ (t : List ℕ). t ++ first_line (drop (at + len + 1) cs)) (sym front) ∙ ap (λ (z : ℕ). take (len + 1) (set bytes len b) ++ first_line (drop z cs)) sum)));
    }

-- what is fetched where a line begins
pub fetched_line : (cs : List ℕ) (at : ℕ) → at < length cs
    → fetched (drop at cs) ≡ cond (fits (first_line (drop at cs))) (Ok (Some (line_of (first_line (drop at cs))))) (Err UnfitLine)
fetched_line cs at h = rw (drop_more cs at 0 h)

pub fetched-long : (cs : List ℕ) (at len b : ℕ) (bytes : List ℕ) → at < length cs → Copied cs at len bytes → byte_at cs (at + len) ≡ Some b → (b ≡ 10 → ⊥)
    → len ≡ 80 → Err UnfitLine ≡ fetched (drop at cs)
fetched-long cs at len b bytes h k e n m =
    let more : first_line (drop (at + len) cs) ≡ b ∷ first_line (drop (at + len + 1) cs) = first_more cs (at + len) b e n in
    let full : length (take len bytes) ≡ len = let l = k.long in let s = k.short in length-take-le len bytes (omega arith) in
    let size : 80 < length (first_line (drop at cs)) = rw (k.line, more, length-append (take len bytes) (b ∷ first_line (drop (at + len + 1) cs)), full) (omega arith) in
    let bad : fits (first_line (drop at cs)) ≡ false = and_left _ _ (lt-leb _ 80 size) in
    sym (fetched_line cs at h ∙ (rw bad refl))
