-- Lines that are written can be printed. Assumes nothing.
use Rattle.std.proofs.Common.{◌≡◌, ℕ, zero, suc, ◌+◌, ◌/◌, ◌%◌, ◌^◌, ◌<◌, ◌≤◌, Bool, true, false, cond, ◌&&◌, eqb, leb, List, [], ◌∷◌, ◌++◌, length, get_or, ℤ, nat_abs, Some, None, Option, sym, refl, ap, subst, arith, lit≤, leb-true}
use Rattle.codes.specs.Codes.{technique_letter, constraint_digit, place_letter}
use Rattle.codes.specs.ParameterTypes.{types, no_type, type_named}
use Rattle.codes.specs.declared.letters.Constraint.{Constraint}
use Rattle.codes.specs.declared.letters.Constraint.TheVariants.{Fixed, Significant, Unconstrained}
use Rattle.codes.specs.declared.letters.Contents.{Contents}
use Rattle.codes.specs.declared.letters.Contents.TheVariants.{Stations, Orbits, EarthOrientation, Troposphere, CelestialFrame, Antennas}
use Rattle.codes.specs.declared.letters.Technique.{Technique}
use Rattle.codes.specs.declared.letters.Technique.TheVariants.{Combined, Doris, SatelliteLaser, LunarLaser, Gnss, Vlbi}
use Rattle.codes.specs.declared.types.ParameterType.{ParameterType}
use Rattle.codes.proofs.TypeTable.{types_are_named}
use Rattle.decimals.specs.Justify.{blanked, marked, justified}
use Rattle.decimals.specs.Write.{fixed, below, digits_text, number_text, deviation_text}
use Rattle.decimals.specs.declared.number.Deviation.{Deviation}
use Rattle.decimals.specs.declared.number.Number.{Number}
use Rattle.fields.specs.Angle.{angle_text, height_text}
use Rattle.fields.specs.Epoch.{stamp, epoch_text}
use Rattle.fields.specs.declared.epochs.Epoch.{Epoch}
use Rattle.fields.specs.declared.epochs.Epoch.TheVariants.{Open, At}
use Rattle.headings.specs.Copies.{joined, blanks}
use Rattle.headings.specs.Copies.{agencies_parts, period_parts, letter_text, letters_text, header_parts}
use Rattle.headings.specs.Elements.{place_parts, single_parts, matrix_parts}
use Rattle.records.specs.Copies.{site_key_parts, site_key_text, solution_key_parts, solution_key_text, position_parts, position_text, site_parts, site_text}
use Rattle.records.specs.Copies.{span_key_parts, epochs_parts, span_parts, parameter_key_parts, measure_parts, unit_in, unit_of, parameter_parts}
use Rattle.record_laws.specs.Shown.{LinesAreShown}
use Rattle.record_laws.specs.Valid.{Printable, ValidSiteKey, ValidSolutionKey, ValidSite, ValidSpan, ValidParameter, ValidHeader}
use Rattle.headings.specs.declared.headers.Header.{Header}
use Rattle.records.specs.declared.keys.SiteKey.{SiteKey}
use Rattle.records.specs.declared.keys.SolutionKey.{SolutionKey}
use Rattle.records.specs.declared.parameters.Parameter.{Parameter}
use Rattle.records.specs.declared.sites.Site.{Site}
use Rattle.records.specs.declared.spans.Span.{Span}
use Rattle.record_laws.proofs.Validity.{print_both, print_blanks}

abbrev Byte : ℕ → Type 0
Byte c = (32 ≤ c) × (c ≤ 126)

-- ---- digits

digit_shown : (x : ℕ) → Byte (48 + x % 10)
digit_shown x = (omega arith, omega arith)

fixed-shown : (k m : ℕ) → Printable (fixed k m)
fixed-shown zero m = tt
fixed-shown (suc k) m = (digit_shown (m / 10 ^ k), fixed-shown k m)

either-shown : (b : Bool) (xs ys : List ℕ) → Printable xs → Printable ys → Printable (cond b xs ys)
either-shown true xs ys p q = p
either-shown false xs ys p q = q

sign-shown : (b : Bool) (c d : ℕ) → Byte c → Byte d → Byte (cond b c d)
sign-shown true c d p q = p
sign-shown false c d p q = q

blanked-shown : (bs : List ℕ) → Printable bs → Printable (blanked bs)
blanked-shown [] p = tt
blanked-shown (c ∷ []) p = p
blanked-shown (c ∷ (d ∷ ds)) p = either-shown (eqb c 48) (32 ∷ blanked (d ∷ ds)) (c ∷ (d ∷ ds)) ((lit≤ tt, lit≤ tt), blanked-shown (d ∷ ds) p.1) p

marked-shown : (bs : List ℕ) → Printable bs → Printable (marked bs)
marked-shown [] p = tt
marked-shown (c ∷ []) p = ((lit≤ tt, lit≤ tt), tt)
marked-shown (c ∷ (d ∷ ds)) p = either-shown (eqb d 32) (c ∷ marked (d ∷ ds)) (45 ∷ (d ∷ ds)) (p.0, marked-shown (d ∷ ds) p.1) ((lit≤ tt, lit≤ tt), p.1)

justified-shown : (neg : Bool) (w n : ℕ) → Printable (justified neg w n)
justified-shown neg w n =
    let b : Printable (blanked (fixed w n)) = blanked-shown (fixed w n) (fixed-shown w n) in
    either-shown neg (marked (blanked (fixed w n))) (blanked (fixed w n)) (marked-shown (blanked (fixed w n)) b) b

stamp-shown : (y d s : ℕ) → Printable (stamp y d s)
stamp-shown y d s = print_both (fixed 2 y) (58 ∷ (fixed 3 d ++ (58 ∷ fixed 5 s))) (fixed-shown 2 y)
    ((lit≤ tt, lit≤ tt), print_both (fixed 3 d) (58 ∷ fixed 5 s) (fixed-shown 3 d) ((lit≤ tt, lit≤ tt), fixed-shown 5 s))

epoch-shown : (e : Epoch) → Printable (epoch_text e)
epoch-shown Open = stamp-shown 0 0 0
epoch-shown (At m) = stamp-shown m.year m.day m.second

height_tail : (n : ℕ) → Printable (46 ∷ fixed 1 n)
height_tail n = ((lit≤ tt, lit≤ tt), fixed-shown 1 n)

angle-shown : (z : ℤ) → Printable (angle_text z)
angle-shown z =
    print_both (justified (below z) 3 (nat_abs z / 36000)) (32 ∷ (justified false 2 (nat_abs z / 600 % 60) ++ (32 ∷ (justified false 2 (nat_abs z % 600 / 10) ++ (46 ∷ fixed 1 (nat_abs z)))))) (justified-shown (below z) 3 (nat_abs z / 36000)) (
      (lit≤ tt, lit≤ tt),
      print_both (justified false 2 (nat_abs z / 600 % 60)) (32 ∷ (justified false 2 (nat_abs z % 600 / 10) ++ (46 ∷ fixed 1 (nat_abs z)))) (justified-shown false 2 (nat_abs z / 600 % 60))
          ((lit≤ tt, lit≤ tt), print_both (justified false 2 (nat_abs z % 600 / 10)) (46 ∷ fixed 1 (nat_abs z)) (justified-shown false 2 (nat_abs z % 600 / 10)) (height_tail (nat_abs z))),
    )

height-shown : (z : ℤ) → Printable (height_text z)
height-shown z = print_both (justified (below z) 5 (nat_abs z / 10)) (46 ∷ fixed 1 (nat_abs z)) (justified-shown (below z) 5 (nat_abs z / 10)) (height_tail (nat_abs z))

digits-shown : (k m : ℕ) (q : ℤ) → Printable (digits_text k m q)
digits-shown k m q = (
  digit_shown (m / 10 ^ k),
  (
    (lit≤ tt, lit≤ tt),
    print_both (fixed k m) (69 ∷ (cond (below q) 45 43 ∷ fixed 2 (nat_abs q))) (fixed-shown k m)
        ((lit≤ tt, lit≤ tt), (sign-shown (below q) 45 43 (lit≤ tt, lit≤ tt) (lit≤ tt, lit≤ tt), fixed-shown 2 (nat_abs q))),
  ),
)

number_shown : (n : Number) → Printable (number_text n)
number_shown n = (sign-shown n.negative 45 32 (lit≤ tt, lit≤ tt) (lit≤ tt, lit≤ tt), digits-shown 14 n.mantissa n.exponent)

deviation-shown : (d : Deviation) → Printable (deviation_text d)
deviation-shown d = digits-shown 5 d.mantissa d.exponent

-- ---- letters and units

technique_shown : (t : Technique) → Byte (technique_letter t)
technique_shown Combined = (lit≤ tt, lit≤ tt)
technique_shown Doris = (lit≤ tt, lit≤ tt)
technique_shown SatelliteLaser = (lit≤ tt, lit≤ tt)
technique_shown LunarLaser = (lit≤ tt, lit≤ tt)
technique_shown Gnss = (lit≤ tt, lit≤ tt)
technique_shown Vlbi = (lit≤ tt, lit≤ tt)

constraint_shown : (t : Constraint) → Byte (constraint_digit t)
constraint_shown Fixed = (lit≤ tt, lit≤ tt)
constraint_shown Significant = (lit≤ tt, lit≤ tt)
constraint_shown Unconstrained = (lit≤ tt, lit≤ tt)

-- ---- parts

abbrev AllShown : List (List ℕ) → Type 0
AllShown [] = Unit {0}
AllShown (p ∷ ps) = Printable p × AllShown ps

joined-shown : (ps : List (List ℕ)) → AllShown ps → Printable (joined ps)
joined-shown [] f = tt
joined-shown (p ∷ ps) f = print_both p (joined ps) f.0 (joined-shown ps f.1)

site_key_shown : (k : SiteKey) → ValidSiteKey k → Printable (site_key_text k)
site_key_shown k v = joined-shown (site_key_parts k) (v.code.shown, (print_blanks 1, (v.point.shown, tt)))

solution_key_shown : (k : SolutionKey) → ValidSolutionKey k → Printable (solution_key_text k)
solution_key_shown k v = joined-shown (solution_key_parts k) (site_key_shown k.site v.site, (print_blanks 1, (v.solution.shown, tt)))

position-shown : (x y z : ℤ) → Printable (position_text x y z)
position-shown x y z = joined-shown (position_parts x y z) (angle-shown x, (print_blanks 1, (angle-shown y, (print_blanks 1, (height-shown z, (print_blanks 5, tt))))))

site-shown : (s : Site) → ValidSite s → Printable (site_text s)
site-shown s v = joined-shown (site_parts s) (
  print_blanks 1,
  (
    site_key_shown s.key v.key,
    (
      print_blanks 1,
      (
        v.monument.shown,
        (
          print_blanks 1,
          (
            (technique_shown s.technique, tt),
            (print_blanks 1, (v.description.shown, (print_blanks 1, (position-shown s.longitude s.latitude s.height, tt)))),
          ),
        ),
      ),
    ),
  ),
)

span_shown : (s : Span) → ValidSpan s → Printable (joined (span_parts s))
span_shown s v = joined-shown (span_parts s) (
  print_blanks 1,
  (
    joined-shown (span_key_parts s.key) (solution_key_shown s.key.at v.at, (print_blanks 1, ((technique_shown s.key.technique, tt), tt))),
    (
      joined-shown (epochs_parts s) (print_blanks 1, (epoch-shown s.start, (print_blanks 1, (epoch-shown s.end, (print_blanks 1, (epoch-shown s.mean, (print_blanks 26, tt))))))),
      tt,
    ),
  ),
)

cell-shown : (i j : ℕ) (n : Number) → Printable (joined (matrix_parts i j n))
cell-shown i j n = joined-shown (matrix_parts i j n) (
  print_blanks 1,
  (
    joined-shown (place_parts i j) (justified-shown false 5 i, (print_blanks 1, (justified-shown false 5 j, tt))),
    (
      joined-shown (single_parts n) (print_blanks 1, (number_shown n, (print_blanks 46, tt))),
      tt,
    ),
  ),
)

letter-shown : (p : Option Contents) → Byte (place_letter p)
letter-shown None = (lit≤ tt, lit≤ tt)
letter-shown (Some Stations) = (lit≤ tt, lit≤ tt)
letter-shown (Some Orbits) = (lit≤ tt, lit≤ tt)
letter-shown (Some EarthOrientation) = (lit≤ tt, lit≤ tt)
letter-shown (Some Troposphere) = (lit≤ tt, lit≤ tt)
letter-shown (Some CelestialFrame) = (lit≤ tt, lit≤ tt)
letter-shown (Some Antennas) = (lit≤ tt, lit≤ tt)

place-shown : (i : ℕ) (l : List (Option Contents)) → Printable (letter_text i l)
place-shown i l = ((lit≤ tt, lit≤ tt), (letter-shown (get_or l i None), tt))

letters-shown : (l : List (Option Contents)) → Printable (letters_text l)
letters-shown l = joined-shown (letter_text 0 l ∷ letter_text 1 l ∷ letter_text 2 l ∷ letter_text 3 l ∷ letter_text 4 l ∷ letter_text 5 l ∷ blanks 1 ∷ [])
    (place-shown 0 l, (place-shown 1 l, (place-shown 2 l, (place-shown 3 l, (place-shown 4 l, (place-shown 5 l, (print_blanks 1, tt)))))))

header-shown : (h : Header) (n : ℕ) (l : List (Option Contents)) → ValidHeader h → Printable (joined (header_parts h n l))
header-shown h n l v = joined-shown (header_parts h n l) (
  ((lit≤ tt, lit≤ tt), ((lit≤ tt, lit≤ tt), ((lit≤ tt, lit≤ tt), ((lit≤ tt, lit≤ tt), ((lit≤ tt, lit≤ tt), ((lit≤ tt, lit≤ tt), ((lit≤ tt, lit≤ tt), ((lit≤ tt, lit≤ tt), ((lit≤ tt, lit≤ tt), ((lit≤ tt, lit≤ tt), tt)))))))))),
  (
    joined-shown (agencies_parts h) (print_blanks 1, (v.file.shown, (print_blanks 1, (epoch-shown (At h.created), (print_blanks 1, (v.source.shown, tt)))))),
    (
      joined-shown (period_parts h) (print_blanks 1, (epoch-shown (At h.start), (print_blanks 1, (epoch-shown (At h.end), tt)))),
      (
        print_blanks 1,
        ((technique_shown h.technique, tt), (print_blanks 1, (fixed-shown 5 n, (print_blanks 1, ((constraint_shown h.constraint, tt), (letters-shown l, tt)))))),
      ),
    ),
  ),
)

-- the units of the table
abbrev shown? : List ℕ → Bool
shown? [] = true
shown? (c ∷ cs) = leb 32 c && (leb c 126 && shown? cs)

and_left : (a b : Bool) → (a && b) ≡ true → a ≡ true
and_left true b e = refl
and_left false b e = e

and_right : (a b : Bool) → (a && b) ≡ true → b ≡ true
and_right true b e = e
and_right false b e = absurd (let z : ◌≡◌ {A = ℕ} 0 1 = cc in omega arith)

is_shown : (bs : List ℕ) → shown? bs ≡ true → Printable bs
is_shown [] e = tt
is_shown (c ∷ cs) e =
    let r : (leb c 126 && shown? cs) ≡ true = and_right (leb 32 c) (leb c 126 && shown? cs) e in
    ((leb-true 32 c (and_left (leb 32 c) (leb c 126 && shown? cs) e), leb-true c 126 (and_left (leb c 126) (shown? cs) r)), is_shown cs (and_right (leb c 126) (shown? cs) r))

abbrev units-shown? : List ParameterType → Bool
units-shown? [] = true
units-shown? (t ∷ ts) = shown? t.unit && units-shown? ts

all_units : units-shown? types ≡ true
unfolding types
all_units = refl

unit_at : (ts : List ParameterType) → units-shown? ts ≡ true → (i : ℕ) → i < length ts → Printable (get_or ts i no_type).unit
unit_at [] e i lt = absurd (omega arith)
unit_at (t ∷ ts) e zero lt = is_shown t.unit (and_left (shown? t.unit) (units-shown? ts) e)
unit_at (t ∷ ts) e (suc i) lt =
    let h : i < length ts = omega arith in
    unit_at ts (and_right (shown? t.unit) (units-shown? ts) e) i h

unit_shown : (name : List ℕ) (t : ParameterType) → type_named name ≡ Some t → Printable (unit_of name)
unit_shown name t e =
    let (named, (i, lt, is)) = types_are_named name t e in
    let u : unit_of name ≡ t.unit = ap unit_in e in
    subst Printable (sym u) (subst (λ (x : ParameterType). Printable x.unit) is (unit_at types all_units i lt))

parameter_shown : (n : ℕ) (p : Parameter) → ValidParameter p → Printable (joined (parameter_parts n p))
parameter_shown n p v = joined-shown (parameter_parts n p) (
  print_blanks 1,
  (
    justified-shown false 5 n,
    (
      joined-shown (parameter_key_parts p.key) (print_blanks 1, (v.key.name.shown, (print_blanks 1, (solution_key_shown p.key.at v.key.at, (print_blanks 1, (epoch-shown p.key.epoch, tt)))))),
      (
        print_blanks 1,
        (
          unit_shown p.key.name v.known.0 v.known.1,
          (
            print_blanks 1,
            (
              joined-shown (measure_parts p) ((constraint_shown p.constraint, tt), (print_blanks 1, (number_shown p.value, (print_blanks 1, (deviation-shown p.deviation, tt))))),
              tt,
            ),
          ),
        ),
      ),
    ),
  ),
)

pub lines_are_shown : LinesAreShown
lines_are_shown = record { headers = header-shown; sites = site-shown; spans = span_shown; parameters = parameter_shown; cells = cell-shown }
