-- How much of its 80 columns each kind of line fills. Assumes nothing.
use Rattle.std.proofs.Common.{◌≡◌, ℕ, zero, suc, ◌+◌, ◌-◌, ◌/◌, ◌≤◌, List, [], ◌∷◌, ◌++◌, length, take, drop, ℤ, nat_abs, sym, refl, ◌∙◌, subst, arith}
use Rattle.codes.specs.Codes.{constraint_digit, contents_letter}
use Rattle.codes.specs.Text.{Ended, padded}
use Rattle.codes.specs.declared.letters.Constraint.{Constraint}
use Rattle.codes.specs.declared.letters.Constraint.TheVariants.{Fixed, Significant, Unconstrained}
use Rattle.codes.specs.declared.letters.Contents.{Contents}
use Rattle.codes.specs.declared.letters.Contents.TheVariants.{Stations, Orbits, EarthOrientation, Troposphere, CelestialFrame, Antennas}
use Rattle.copies.specs.Copy.{contents_of, is_of, present, shorn, six_places}
use Rattle.copy_laws.proofs.Columns.{cell_width, header_width, parameter_width, site_width, span_width}
use Rattle.copy_laws.proofs.Shearing.{Closed, Shears, closed_after, shears_after, shears_take, shorn-ended, shorn-padded}
use Rattle.decimals.specs.Justify.{justified}
use Rattle.decimals.specs.Write.{below, deviation_text, fixed, number_text}
use Rattle.decimals.specs.declared.number.Deviation.{Deviation}
use Rattle.decimals.specs.declared.number.Number.{Number}
use Rattle.fields.specs.Angle.{height_text}
use Rattle.fields.specs.Epoch.{epoch_text}
use Rattle.fields.specs.declared.epochs.Epoch.{Epoch}
use Rattle.fields.specs.declared.epochs.Epoch.TheVariants.{Open, At}
use Rattle.model.specs.Needs.{any_of}
use Rattle.record_laws.proofs.Shown.{lines_are_shown}
use Rattle.record_laws.proofs.Validity.{print_take}
use Rattle.record_laws.specs.Valid.{Printable, ValidHeader, ValidParameter, ValidSite, ValidSpan}
use Rattle.headings.specs.Copies.{header_parts, header_text, joined, letters_text}
use Rattle.headings.specs.Elements.{matrix_parts, matrix_text, single_parts, single_text}
use Rattle.headings.specs.declared.headers.Header.{Header}
use Rattle.records.specs.Copies.{epochs_parts, epochs_text, measure_parts, measure_text, parameter_parts, parameter_text, position_parts, position_text, site_parts, site_text, span_parts, span_text}
use Rattle.records.specs.declared.parameters.Parameter.{Parameter}
use Rattle.records.specs.declared.sites.Site.{Site}
use Rattle.records.specs.declared.spans.Span.{Span}
use Rattle.std.proofs.lemmas.List.{append-nil}
use Rattle.std.proofs.lemmas.Bool.{cond_both}

-- ---- texts whose last byte is a digit

epoch-closed : (e : Epoch) → Closed (epoch_text e)
epoch-closed Open = record { ended = λ e. omega arith; some = omega arith }
epoch-closed (At m) = record { ended = λ e. omega arith; some = omega arith }

number_closed : (n : Number) → Closed (number_text n)
number_closed n = record { ended = λ e. omega arith; some = omega arith }

deviation-closed : (d : Deviation) → Closed (deviation_text d)
deviation-closed d = record { ended = λ e. omega arith; some = omega arith }

height-closed : (z : ℤ) → Closed (height_text z)
height-closed z = closed_after (justified (below z) 5 (nat_abs z / 10)) (46 ∷ fixed 1 (nat_abs z)) (record { ended = λ e. omega arith; some = omega arith })

-- ---- letters

digit_filled : (c : Constraint) → constraint_digit c ≡ 32 → ⊥
digit_filled Fixed e = omega arith
digit_filled Significant e = omega arith
digit_filled Unconstrained e = omega arith

letter-filled : (c : Contents) → contents_letter c ≡ 32 → ⊥
letter-filled Stations e = omega arith
letter-filled Orbits e = omega arith
letter-filled EarthOrientation e = omega arith
letter-filled Troposphere e = omega arith
letter-filled CelestialFrame e = omega arith
letter-filled Antennas e = omega arith

-- a digit and at most five letters, each after a blank
letters_shear : (d : ℕ) (cs : List Contents) → (d ≡ 32 → ⊥) → length cs ≤ 5 → Shears (13 - (length cs + length cs)) (d ∷ (letters_text (six_places cs) ++ []))
letters_shear d [] n h = record { text = d ∷ []; closed = record { ended = n; some = omega arith }; is = refl }
letters_shear d (a ∷ []) n h = record { text = d ∷ 32 ∷ contents_letter a ∷ []; closed = record { ended = letter-filled a; some = omega arith }; is = refl }
letters_shear d (a ∷ b ∷ []) n h =
    record { text = d ∷ 32 ∷ contents_letter a ∷ 32 ∷ contents_letter b ∷ []; closed = record { ended = letter-filled b; some = omega arith }; is = refl }
letters_shear d (a ∷ b ∷ c ∷ []) n h =
    record { text = d ∷ 32 ∷ contents_letter a ∷ 32 ∷ contents_letter b ∷ 32 ∷ contents_letter c ∷ []; closed = record { ended = letter-filled c; some = omega arith }; is = refl }
letters_shear d (a ∷ b ∷ c ∷ e ∷ []) n h = record {
  text = d ∷ 32 ∷ contents_letter a ∷ 32 ∷ contents_letter b ∷ 32 ∷ contents_letter c ∷ 32 ∷ contents_letter e ∷ [];
  closed = record { ended = letter-filled e; some = omega arith };
  is = refl;
}
letters_shear d (a ∷ b ∷ c ∷ e ∷ f ∷ []) n h = record {
  text = d ∷ 32 ∷ contents_letter a ∷ 32 ∷ contents_letter b ∷ 32 ∷ contents_letter c ∷ 32 ∷ contents_letter e ∷ 32 ∷ contents_letter f ∷ [];
  closed = record { ended = letter-filled f; some = omega arith };
  is = refl;
}
letters_shear d (a ∷ b ∷ c ∷ e ∷ f ∷ g ∷ cs) n h = absurd (omega arith)

-- no more letters than those asked of
present-few : (es : List Parameter) (cs : List Contents) → length (present es cs) ≤ length cs
present-few es [] = omega arith
present-few es (c ∷ cs) =
    let r = present-few es cs in
    cond_both (any_of (is_of c) es) (c ∷ present es cs) (present es cs) (λ l. length l ≤ suc (length cs)) (λ _. omega arith) (λ _. omega arith)

pub contents_few : (es : List Parameter) → length (contents_of es) ≤ 5
contents_few es = present-few es (Stations ∷ EarthOrientation ∷ Troposphere ∷ CelestialFrame ∷ Antennas ∷ [])

-- ---- lines of parts

-- what the parts from n on end in, all of them end in
shears_joined : (k n : ℕ) (ps : List (List ℕ)) → Shears k (joined (drop n ps)) → Shears k (joined ps)
shears_joined k zero ps s = s
shears_joined k (suc n) [] s = s
shears_joined k (suc n) (p ∷ ps) s = shears_after k p (joined ps) (shears_joined k n ps s)

-- a part that is the last
shears_last : (k : ℕ) (t : List ℕ) → Shears k t → Shears k (t ++ [])
shears_last k t s = subst (Shears k) (sym (append-nil t)) s

site_shears : (s : Site) → Shears 5 (site_text s)
site_shears s =
    let p : List ℕ = position_text s.longitude s.latitude s.height in
    shears_joined 5 9 (site_parts s) (shears_last 5 p (
    shears_joined 5 4 (position_parts s.longitude s.latitude s.height) (record { text = height_text s.height; closed = height-closed s.height; is = refl })))

span_shears : (s : Span) → Shears 26 (span_text s)
span_shears s =
    shears_joined 26 2 (span_parts s) (shears_last 26 (epochs_text s) (
    shears_joined 26 5 (epochs_parts s) (record { text = epoch_text s.mean; closed = epoch-closed s.mean; is = refl })))

parameter_shears : (i : ℕ) (p : Parameter) → Shears 0 (parameter_text i p)
parameter_shears i p =
    shears_joined 0 6 (parameter_parts i p) (shears_last 0 (measure_text p) (
    shears_joined 0 4 (measure_parts p) (record { text = deviation_text p.deviation; closed = deviation-closed p.deviation; is = refl })))

cell_shears : (i j : ℕ) (v : Number) → Shears 46 (matrix_text i j v)
cell_shears i j v =
    shears_joined 46 2 (matrix_parts i j v) (shears_last 46 (single_text v) (
    shears_joined 46 1 (single_parts v) (record { text = number_text v; closed = number_closed v; is = refl })))

header_shears : (h : Header) (n : ℕ) (cs : List Contents) → length cs ≤ 5 → Shears (13 - (length cs + length cs)) (header_text h n (six_places cs))
header_shears h n cs few =
    shears_joined (13 - (length cs + length cs)) 8 (header_parts h n (six_places cs)) (letters_shear (constraint_digit h.constraint) cs (digit_filled h.constraint) few)

-- ---- 80 columns, of which the first w are filled

pub record Cut (w : ℕ) (t : List ℕ) : Type 0 where
  -- without the blanks at their end, they are the first w
  pub taken : shorn t ≡ take w t
  pub long : length (shorn t) ≡ w
  pub short : length (shorn t) ≤ 80
  pub shown : Printable (shorn t)
  pub ended : Ended (shorn t)
  -- blanks up to 80 columns give them back
  pub back : padded 80 (shorn t) ≡ t

cut_at : (w k : ℕ) (t : List ℕ) → Shears k t → length t ≡ 80 → w + k ≡ 80 → Printable t → Cut w t
cut_at w k t s l e p =
    let (is, n) = shears_take w k t s (l ∙ sym e) in
    record { taken = is; long = n; short = omega arith; shown = subst Printable (sym is) (print_take w t p); ended = shorn-ended t; back = shorn-padded 80 t l }

pub site-cut : (s : Site) → ValidSite s → Cut 75 (site_text s)
site-cut s v = cut_at 75 5 (site_text s) (site_shears s) (site_width s v) refl (lines_are_shown.sites s v)

pub span_cut : (s : Span) → ValidSpan s → Cut 54 (span_text s)
span_cut s v = cut_at 54 26 (span_text s) (span_shears s) (span_width s v) refl (lines_are_shown.spans s v)

pub parameter_cut : (i : ℕ) (p : Parameter) → ValidParameter p → Cut 80 (parameter_text i p)
parameter_cut i p v = cut_at 80 0 (parameter_text i p) (parameter_shears i p) (parameter_width i p v) refl (lines_are_shown.parameters i p v)

pub cell_cut : (i j : ℕ) (v : Number) → Cut 34 (matrix_text i j v)
cell_cut i j v = cut_at 34 46 (matrix_text i j v) (cell_shears i j v) (cell_width i j v) refl (lines_are_shown.cells i j v)

pub header-cut : (h : Header) (n : ℕ) (cs : List Contents) → ValidHeader h → length cs ≤ 5 → Cut (67 + (length cs + length cs)) (header_text h n (six_places cs))
header-cut h n cs v few =
    cut_at (67 + (length cs + length cs)) (13 - (length cs + length cs)) (header_text h n (six_places cs)) (header_shears h n cs few) (header_width h n (six_places cs) v) (omega arith)
    (lines_are_shown.headers h n (six_places cs) v)
