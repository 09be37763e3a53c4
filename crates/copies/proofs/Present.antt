-- The letters of a header, one after another.
use Rattle.std.proofs.Common.{◌≡◌, ℕ, suc, ◌+◌, ◌-◌, ◌<◌, ◌≤◌, Bool, true, false, cond, ◌||◌, List, [], ◌∷◌, ◌++◌, map, length, get_or, take, drop, set, replicate, Some, None, Option, sym, refl, ap, ◌∙◌, arith}
use Rattle.codes.specs.declared.letters.Contents.{Contents}
use Rattle.codes.specs.declared.letters.Contents.TheVariants.{Stations, EarthOrientation, Troposphere, CelestialFrame, Antennas}
use Rattle.copies.specs.Copy.{is_of, present, six_places}
use Rattle.model.specs.Needs.{any_of}
use Rattle.records.specs.declared.parameters.Parameter.{Parameter}
use Rattle.std.proofs.lemmas.List.{append_assoc, append-nil, drop_more, length-map, length_push, map_push, set_at, take_more}
use Rattle.std.proofs.lemmas.Bool.{cond-true, cond-false, or_left}

abbrev pub order : List Contents
order = Stations ∷ EarthOrientation ∷ Troposphere ∷ CelestialFrame ∷ Antennas ∷ []

cond-append : {X : Type 0} (b : Bool) (x : X) (xs ys : List X) → cond b (x ∷ (xs ++ ys)) (xs ++ ys) ≡ cond b (x ∷ xs) xs ++ ys
cond-append true x xs ys = refl
cond-append false x xs ys = refl

pub present-append : (es : List Parameter) (cs ds : List Contents) → present es (cs ++ ds) ≡ present es cs ++ present es ds
present-append es [] ds = refl
present-append es (c ∷ cs) ds =
    ap (λ xs. cond (any_of (is_of c) es) (c ∷ xs) xs) (present-append es cs ds) ∙ cond-append (any_of (is_of c) es) c (present es cs) (present es ds)

-- the contents at place i, if some estimate is of them
pub present_more : (es : List Parameter) (i : ℕ) (d : Contents) → i < 5 → any_of (is_of (get_or order i d)) es ≡ true → present es (take (i + 1) order) ≡ present es (take i order) ++ get_or order i d ∷ []
present_more es i d lt t =
    ap (present es) (take_more order i d lt)
    ∙ present-append es (take i order) (get_or order i d ∷ [])
    ∙ ap (λ xs. present es (take i order) ++ xs) (cond-true (any_of (is_of (get_or order i d)) es) (get_or order i d ∷ []) [] t)

pub present-same : (es : List Parameter) (i : ℕ) (d : Contents) → i < 5 → any_of (is_of (get_or order i d)) es ≡ false → present es (take (i + 1) order) ≡ present es (take i order)
present-same es i d lt t =
    ap (present es) (take_more order i d lt)
    ∙ present-append es (take i order) (get_or order i d ∷ [])
    ∙ ap (λ xs. present es (take i order) ++ xs) (cond-false (any_of (is_of (get_or order i d)) es) (get_or order i d ∷ []) [] t)
    ∙ append-nil (present es (take i order))

-- a letter more in the first free place
places_more : (cs : List Contents) (n : ℕ) (c : Contents) → n ≡ length cs → n < 6 → set (six_places cs) n (Some c) ≡ six_places (cs ++ c ∷ [])
places_more cs n c e lt =
    let k : 6 - length cs ≡ suc (5 - length cs) = omega arith in
    let m : length (cs ++ c ∷ []) ≡ length cs + 1 = length_push cs c in
    let j : 5 - length cs ≡ 6 - length (cs ++ c ∷ []) = omega arith in
    let p : length (map Some cs) ≡ n = length-map cs Some ∙ sym e in
    ap (λ x. set (map Some cs ++ replicate x None) n (Some c)) k
    ∙ set_at (map Some cs) None (replicate (5 - length cs) None) (Some c) n p
    ∙ sym (append_assoc (map Some cs) (Some c ∷ []) (replicate (5 - length cs) None))
    ∙ ap (λ xs. xs ++ replicate (5 - length cs) None) (sym (map_push Some cs c))
    ∙ ap (λ x. map Some (cs ++ c ∷ []) ++ replicate x None) j

-- the letters of the first i contents, and how many they are
pub record Noted (es : List Parameter) (i : ℕ) (ps : List (Option Contents)) (n : ℕ) : Type 0 where
  pub places : ps ≡ six_places (present es (take i order))
  pub count : n ≡ length (present es (take i order))
  pub few : n ≤ i

pub noted_more : (es : List Parameter) (i : ℕ) (places : List (Option Contents)) (count : ℕ) (d : Contents) → i < 5 → Noted es i places count → any_of (is_of (get_or order i d)) es ≡ true → Noted es (i + 1) (set places count (Some (get_or order i d))) (count + 1)
noted_more es i places count d lt n t =
    let c = get_or order i d in
    let cs = present es (take i order) in
    let few : count < 6 = omega (arith, n.few) in
    let e = present_more es i d lt t in
    record {
      places = ap (λ ps. set ps count (Some c)) n.places ∙ places_more cs count c n.count few ∙ ap six_places (sym e);
      count = ap (λ k. k + 1) n.count ∙ sym (length_push cs c) ∙ ap length (sym e);
      few = omega (arith, n.few);
    }

pub noted_same : (es : List Parameter) (i : ℕ) (places : List (Option Contents)) (count : ℕ) (d : Contents) → i < 5 → Noted es i places count → any_of (is_of (get_or order i d)) es ≡ false → Noted es (i + 1) places count
noted_same es i places count d lt n t =
    let e = present-same es i d lt t in
    record { places = n.places ∙ ap six_places (sym e); count = n.count ∙ ap length (sym e); few = omega (arith, n.few) }

-- ---- whether an estimate is of some contents

pub any_found : {R : Type 0} (f : R → Bool) (xs : List R) (i : ℕ) (d : R) → i < length xs → f (get_or xs i d) ≡ true → any_of f (drop i xs) ≡ true
any_found f xs i d lt t = ap (any_of f) (drop_more xs i d lt) ∙ or_left (f (get_or xs i d)) (any_of f (drop (i + 1) xs)) t

pub any_past : {R : Type 0} (f : R → Bool) (xs : List R) (i : ℕ) (d : R) → i < length xs → f (get_or xs i d) ≡ false → any_of f (drop i xs) ≡ any_of f (drop (i + 1) xs)
any_past f xs i d lt t = ap (any_of f) (drop_more xs i d lt) ∙ ap (λ b. b || any_of f (drop (i + 1) xs)) t
