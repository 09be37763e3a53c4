-- What reading gives is valid. Assumes nothing.
use Rattle.std.proofs.Common.{◌≡◌, ℕ, zero, suc, ◌-◌, ◌<◌, ◌≤◌, Bool, true, false, cond, List, [], ◌∷◌, ◌++◌, length, take, drop, replicate, Some, None, Ok, Err, Option, Result, sym, refl, subst, arith, lit≤, length-take}
use Rattle.refusals.specs.declared.Fault.{Fault}
use Rattle.codes.specs.Codes.{read_technique}
use Rattle.codes.specs.Text.{padded, read_text, read_description, check_blank}
use Rattle.codes.proofs.Phrases.{texts_have_form, texts_come_back, descriptions_have_form, descriptions_come_back}
use Rattle.fields.specs.Angle.{columns, read_longitude, read_latitude, read_height}
use Rattle.fields.proofs.Degrees.{longitudes_come_back, latitudes_come_back, heights_come_back}
use Rattle.codes.specs.Codes.{read_constraint}
use Rattle.codes.specs.ParameterTypes.{type_named, in_unit, check_type}
use Rattle.codes.specs.declared.letters.Constraint.{Constraint}
use Rattle.codes.specs.declared.types.ParameterType.{ParameterType}
use Rattle.decimals.specs.Number.{read_number, read_deviation}
use Rattle.decimals.specs.Write.{Canonical, CanonicalDeviation}
use Rattle.decimals.specs.declared.number.Deviation.{Deviation}
use Rattle.decimals.specs.declared.number.Number.{Number}
use Rattle.decimals.proofs.Meaning.{numbers_come_back, deviations_come_back}
use Rattle.fields.specs.Epoch.{Dated, DatedEpoch, read_epoch, read_moment}
use Rattle.fields.specs.declared.epochs.Epoch.{Epoch}
use Rattle.fields.specs.declared.epochs.Moment.{Moment}
use Rattle.fields.proofs.Stamps.{epochs_come_back, moments_come_back}
use Rattle.decimals.specs.Number.{blank}
use Rattle.fields.specs.Count.{read_count}
use Rattle.fields.proofs.Degrees.{counts_come_back}
use Rattle.headings.specs.Elements.{read_place, read_element, read_elements}
use Rattle.record_laws.specs.MatrixLaws.{ValidElement, ValidMatrixLine, MatrixLinesAreValid}
use Rattle.headings.specs.Headers.{read_agencies, read_period, check_letters, read_header_by}
use Rattle.records.specs.Parameters.{read_parameter_key, read_measure}
use Rattle.records.specs.Spans.{read_span_key, read_epochs}
use Rattle.record_laws.specs.Valid.{ValidSpan, ValidParameterKey, ValidParameter, ValidHeader, SpansAreValid, ParametersAreValid, HeadersAreValid}
use Rattle.headings.specs.declared.headers.Header.{Header}
use Rattle.headings.specs.Lines.{and_then}
use Rattle.records.specs.declared.spans.SpanKey.{SpanKey}
use Rattle.records.specs.Keys.{read_site_key, read_solution_key}
use Rattle.records.specs.Sites.{read_position}
use Rattle.record_laws.specs.Valid.{Gives, Printable, KeptText, KeptDescription, ValidSiteKey, ValidSolutionKey, ValidPosition, ValidSite, SitesAreValid}

-- a step of a line: what holds after every answer of the first field holds after both
pub then_holds : {A B : Type 0} (P : B → Type 0) (r : Result A Fault) (f : A → Result B Fault) → ((a : A) → r ≡ Ok a → Gives P (f a)) → Gives P (and_then r f)
then_holds P (Ok a) f h = h a refl
then_holds P (Err e) f h = tt

-- the answer that was given
pub given : {A : Type 0} (P : A → Type 0) (r : Result A Fault) (a : A) → r ≡ Ok a → Gives P r → P a
given P r a e h = subst (λ t. Gives P t) e h

-- ---- bytes that can be printed

pub print_take : (n : ℕ) (bs : List ℕ) → Printable bs → Printable (take n bs)
print_take zero bs p = tt
print_take (suc n) [] p = tt
print_take (suc n) (c ∷ cs) p = (p.0, print_take n cs p.1)

pub print_drop : (n : ℕ) (bs : List ℕ) → Printable bs → Printable (drop n bs)
print_drop zero bs p = p
print_drop (suc n) [] p = tt
print_drop (suc n) (c ∷ cs) p = print_drop n cs p.1

pub print_columns : (i j : ℕ) (bs : List ℕ) → Printable bs → Printable (columns i j bs)
print_columns i j bs p = print_take (j - i) (drop i bs) (print_drop i bs p)

print_left : (xs ys : List ℕ) → Printable (xs ++ ys) → Printable xs
print_left [] ys p = tt
print_left (x ∷ xs) ys p = (p.0, print_left xs ys p.1)

print_right : (xs ys : List ℕ) → Printable (xs ++ ys) → Printable ys
print_right [] ys p = p
print_right (x ∷ xs) ys p = print_right xs ys p.1

pub print_both : (xs ys : List ℕ) → Printable xs → Printable ys → Printable (xs ++ ys)
print_both [] ys p q = q
print_both (x ∷ xs) ys p q = (p.0, print_both xs ys p.1 q)

pub print_blanks : (n : ℕ) → Printable (replicate n 32)
print_blanks zero = tt
print_blanks (suc n) = ((lit≤ tt, lit≤ tt), print_blanks n)

print_padded : (a b n : ℕ) (bs w t : List ℕ) → Printable bs → bs ≡ replicate a 32 ++ (w ++ replicate b 32) → t ≡ padded n w → Printable t
print_padded a b n bs w t p e f =
    let q : Printable (w ++ replicate b 32) = print_right (replicate a 32) (w ++ replicate b 32) (subst Printable e p) in
    subst Printable (sym f) (print_both w (replicate (n - length w) 32) (print_left w (replicate b 32) q) (print_blanks (n - length w)))

pub text_kept : (n : ℕ) (bs t : List ℕ) → Printable bs → read_text n bs ≡ Ok t → KeptText n t
text_kept n bs t p e =
    let (size, stable) = texts_come_back n bs t e in
    let (w, k, is, (a, b, from)) = texts_have_form.1 n bs t e in
    record { size = size; stable = stable; shown = print_padded a b n bs w t p from is }

pub description-kept : (n : ℕ) (bs t : List ℕ) → Printable bs → read_description n bs ≡ Ok t → KeptDescription n t
description-kept n bs t p e =
    let (size, stable) = descriptions_come_back n bs t e in
    let (w, k, is, (a, b, from)) = descriptions_have_form.1 n bs t e in
    record { size = size; stable = stable; shown = print_padded a b n bs w t p from is }

-- ---- keys and sites

pub site_key_valid : (bs : List ℕ) → Printable bs → Gives ValidSiteKey (read_site_key bs)
site_key_valid bs p =
    then_holds ValidSiteKey (read_text 4 (columns 0 4 bs)) _ (λ code e.
    then_holds ValidSiteKey (check_blank (columns 4 5 bs)) _ (λ _ _.
    then_holds ValidSiteKey (read_text 2 (columns 5 7 bs)) _ (λ point f.
    record { code = text_kept 4 (columns 0 4 bs) code (print_columns 0 4 bs p) e; point = text_kept 2 (columns 5 7 bs) point (print_columns 5 7 bs p) f })))

pub solution_key_valid : (bs : List ℕ) → Printable bs → Gives ValidSolutionKey (read_solution_key bs)
solution_key_valid bs p =
    then_holds ValidSolutionKey (read_site_key (columns 0 7 bs)) _ (λ site e.
    then_holds ValidSolutionKey (check_blank (columns 7 8 bs)) _ (λ _ _.
    then_holds ValidSolutionKey (read_text 4 (columns 8 12 bs)) _ (λ solution f.
    record {
      site = given ValidSiteKey (read_site_key (columns 0 7 bs)) site e (site_key_valid (columns 0 7 bs) (print_columns 0 7 bs p));
      solution = text_kept 4 (columns 8 12 bs) solution (print_columns 8 12 bs p) f;
    })))

position_valid : (bs : List ℕ) → Gives ValidPosition (read_position bs)
position_valid bs =
    then_holds ValidPosition (read_longitude (columns 0 11 bs)) _ (λ longitude e.
    then_holds ValidPosition (check_blank (columns 11 12 bs)) _ (λ _ _.
    then_holds ValidPosition (read_latitude (columns 12 23 bs)) _ (λ latitude f.
    then_holds ValidPosition (check_blank (columns 23 24 bs)) _ (λ _ _.
    then_holds ValidPosition (read_height (columns 24 31 bs)) _ (λ height g.
    then_holds ValidPosition (check_blank (columns 31 36 bs)) _ (λ _ _.
    record {
      longitude = longitudes_come_back.0 (columns 0 11 bs) longitude e;
      latitude = latitudes_come_back.0 (columns 12 23 bs) latitude f;
      height = heights_come_back.0 (columns 24 31 bs) height g;
    }))))))

pub sites_are_valid : SitesAreValid
sites_are_valid line p =
    then_holds ValidSite (read_site_key (columns 1 8 line)) _ (λ key e.
    then_holds ValidSite (check_blank (columns 8 9 line)) _ (λ _ _.
    then_holds ValidSite (read_text 9 (columns 9 18 line)) _ (λ monument f.
    then_holds ValidSite (check_blank (columns 18 19 line)) _ (λ _ _.
    then_holds ValidSite (read_technique (columns 19 20 line)) _ (λ technique _.
    then_holds ValidSite (check_blank (columns 20 21 line)) _ (λ _ _.
    then_holds ValidSite (read_description 22 (columns 21 43 line)) _ (λ description g.
    then_holds ValidSite (check_blank (columns 43 44 line)) _ (λ _ _.
    then_holds ValidSite (read_position (columns 44 80 line)) _ (λ place h.
    record {
      key = given ValidSiteKey (read_site_key (columns 1 8 line)) key e (site_key_valid (columns 1 8 line) (print_columns 1 8 line p));
      monument = text_kept 9 (columns 9 18 line) monument (print_columns 9 18 line p) f;
      description = description-kept 22 (columns 21 43 line) description (print_columns 21 43 line p) g;
      position = given ValidPosition (read_position (columns 44 80 line)) place h (position_valid (columns 44 80 line));
    })))))))))

-- ---- spans

span_key_valid : (bs : List ℕ) → Printable bs → Gives (λ (k : SpanKey). ValidSolutionKey k.at) (read_span_key bs)
span_key_valid bs p =
    let P : SpanKey → Type 0 = λ k. ValidSolutionKey k.at in
    then_holds P (read_solution_key (columns 0 12 bs)) _ (λ at e.
    then_holds P (check_blank (columns 12 13 bs)) _ (λ _ _.
    then_holds P (read_technique (columns 13 14 bs)) _ (λ _ _.
    given ValidSolutionKey (read_solution_key (columns 0 12 bs)) at e (solution_key_valid (columns 0 12 bs) (print_columns 0 12 bs p)))))

abbrev Dates : Epoch × Epoch × Epoch → Type 0
Dates t = DatedEpoch t.0 × DatedEpoch t.1 × DatedEpoch t.2

epochs_valid : (bs : List ℕ) → Gives Dates (read_epochs bs)
epochs_valid bs =
    then_holds Dates (check_blank (columns 0 1 bs)) _ (λ _ _.
    then_holds Dates (read_epoch (columns 1 13 bs)) _ (λ start e.
    then_holds Dates (check_blank (columns 13 14 bs)) _ (λ _ _.
    then_holds Dates (read_epoch (columns 14 26 bs)) _ (λ end f.
    then_holds Dates (check_blank (columns 26 27 bs)) _ (λ _ _.
    then_holds Dates (read_epoch (columns 27 39 bs)) _ (λ mean g.
    then_holds Dates (check_blank (columns 39 65 bs)) _ (λ _ _.
    (epochs_come_back.0 (columns 1 13 bs) start e, epochs_come_back.0 (columns 14 26 bs) end f, epochs_come_back.0 (columns 27 39 bs) mean g))))))))

pub spans_are_valid : SpansAreValid
spans_are_valid line p =
    then_holds ValidSpan (read_span_key (columns 1 15 line)) _ (λ key e.
    then_holds ValidSpan (read_epochs (columns 15 80 line)) _ (λ epochs f.
    let (start, end, mean) = given Dates (read_epochs (columns 15 80 line)) epochs f (epochs_valid (columns 15 80 line)) in
    record {
      at = given (λ (k : SpanKey). ValidSolutionKey k.at) (read_span_key (columns 1 15 line)) key e (span_key_valid (columns 1 15 line) (print_columns 1 15 line p));
      start = start;
      end = end;
      mean = mean;
    }))

-- ---- parameters

parameter_key_valid : (bs : List ℕ) → Printable bs → Gives ValidParameterKey (read_parameter_key bs)
parameter_key_valid bs p =
    then_holds ValidParameterKey (check_blank (columns 0 1 bs)) _ (λ _ _.
    then_holds ValidParameterKey (read_text 6 (columns 1 7 bs)) _ (λ name e.
    then_holds ValidParameterKey (check_blank (columns 7 8 bs)) _ (λ _ _.
    then_holds ValidParameterKey (read_solution_key (columns 8 20 bs)) _ (λ at f.
    then_holds ValidParameterKey (check_blank (columns 20 21 bs)) _ (λ _ _.
    then_holds ValidParameterKey (read_epoch (columns 21 33 bs)) _ (λ epoch g.
    record {
      at = given ValidSolutionKey (read_solution_key (columns 8 20 bs)) at f (solution_key_valid (columns 8 20 bs) (print_columns 8 20 bs p));
      name = text_kept 6 (columns 1 7 bs) name (print_columns 1 7 bs p) e;
      epoch = epochs_come_back.0 (columns 21 33 bs) epoch g;
    }))))))

abbrev KeptNumbers : Constraint × Number × Deviation → Type 0
KeptNumbers m = Canonical 14 m.1 × CanonicalDeviation m.2

measure_valid : (bs : List ℕ) → Gives KeptNumbers (read_measure bs)
measure_valid bs =
    then_holds KeptNumbers (read_constraint (columns 0 1 bs)) _ (λ _ _.
    then_holds KeptNumbers (check_blank (columns 1 2 bs)) _ (λ _ _.
    then_holds KeptNumbers (read_number (columns 2 23 bs)) _ (λ value e.
    then_holds KeptNumbers (check_blank (columns 23 24 bs)) _ (λ _ _.
    then_holds KeptNumbers (read_deviation (columns 24 35 bs)) _ (λ deviation f.
    (numbers_come_back.0 (columns 2 23 bs) value e, deviations_come_back.0 (columns 24 35 bs) deviation f))))))

-- a type with its unit is one of the table
pub type_known : (o : Option ParameterType) (unit : List ℕ) (t : ParameterType) → in_unit unit o ≡ Ok t → (u : ParameterType) × (o ≡ Some u)
type_known (Some u) unit t e = (u, refl)
type_known None unit t e = absurd (let z : ◌≡◌ {A = ℕ} 0 1 = cc in omega arith)

pub parameters_are_valid : ParametersAreValid
parameters_are_valid line p =
    then_holds ValidParameter (read_parameter_key (columns 6 39 line)) _ (λ key e.
    then_holds ValidParameter (check_blank (columns 39 40 line)) _ (λ _ _.
    then_holds ValidParameter (read_text 4 (columns 40 44 line)) _ (λ unit _.
    then_holds ValidParameter (check_blank (columns 44 45 line)) _ (λ _ _.
    then_holds ValidParameter (read_measure (columns 45 80 line)) _ (λ measure f.
    then_holds ValidParameter (check_type key.name unit) _ (λ t g.
    let (value, deviation) = given KeptNumbers (read_measure (columns 45 80 line)) measure f (measure_valid (columns 45 80 line)) in
    record {
      key = given ValidParameterKey (read_parameter_key (columns 6 39 line)) key e (parameter_key_valid (columns 6 39 line) (print_columns 6 39 line p));
      known = type_known (type_named key.name) unit t g;
      value = value;
      deviation = deviation;
    }))))))

-- ---- headers

pub record Agencies (a : List ℕ × Moment × List ℕ) : Type 0 where
  pub file : KeptText 3 a.0
  pub created : Dated a.1
  pub source : KeptText 3 a.2

agencies_valid : (bs : List ℕ) → Printable bs → Gives Agencies (read_agencies bs)
agencies_valid bs p =
    then_holds Agencies (check_blank (columns 0 1 bs)) _ (λ _ _.
    then_holds Agencies (read_text 3 (columns 1 4 bs)) _ (λ file e.
    then_holds Agencies (check_blank (columns 4 5 bs)) _ (λ _ _.
    then_holds Agencies (read_moment (columns 5 17 bs)) _ (λ created f.
    then_holds Agencies (check_blank (columns 17 18 bs)) _ (λ _ _.
    then_holds Agencies (read_text 3 (columns 18 21 bs)) _ (λ source g.
    record {
      file = text_kept 3 (columns 1 4 bs) file (print_columns 1 4 bs p) e;
      created = moments_come_back.0 (columns 5 17 bs) created f;
      source = text_kept 3 (columns 18 21 bs) source (print_columns 18 21 bs p) g;
    }))))))

abbrev Period : Moment × Moment → Type 0
Period m = Dated m.0 × Dated m.1

period_valid : (bs : List ℕ) → Gives Period (read_period bs)
period_valid bs =
    then_holds Period (check_blank (columns 0 1 bs)) _ (λ _ _.
    then_holds Period (read_moment (columns 1 13 bs)) _ (λ start e.
    then_holds Period (check_blank (columns 13 14 bs)) _ (λ _ _.
    then_holds Period (read_moment (columns 14 26 bs)) _ (λ end f.
    (moments_come_back.0 (columns 1 13 bs) start e, moments_come_back.0 (columns 14 26 bs) end f)))))

abbrev WithCount : {C : Type 0} → Header × C → Type 0
WithCount h = ValidHeader h.0

header_valid : {C : Type 0} (counted : Result C Fault) (line : List ℕ) → Printable line → Gives (WithCount {C = C}) (read_header_by counted line)
header_valid {C = C} counted line p =
    let P : Header × C → Type 0 = WithCount {C = C} in
    then_holds P (read_agencies (columns 10 31 line)) _ (λ agencies e.
    then_holds P (read_period (columns 31 57 line)) _ (λ period f.
    then_holds P (check_blank (columns 57 58 line)) _ (λ _ _.
    then_holds P (read_technique (columns 58 59 line)) _ (λ _ _.
    then_holds P (check_blank (columns 59 60 line)) _ (λ _ _.
    then_holds P counted _ (λ _ _.
    then_holds P (check_blank (columns 65 66 line)) _ (λ _ _.
    then_holds P (read_constraint (columns 66 67 line)) _ (λ _ _.
    then_holds P (check_letters (columns 67 80 line)) _ (λ _ _.
    let a : Agencies agencies = given Agencies (read_agencies (columns 10 31 line)) agencies e (agencies_valid (columns 10 31 line) (print_columns 10 31 line p)) in
    let (start, end) = given Period (read_period (columns 31 57 line)) period f (period_valid (columns 31 57 line)) in
    record { file = a.file; created = a.created; source = a.source; start = start; end = end })))))))))

pub headers_are_valid : HeadersAreValid
headers_are_valid line p = (
  header_valid (read_count (columns 60 65 line)) line p,
  then_holds ValidHeader (read_header_by (Ok tt) line) _ (λ h e. given WithCount (read_header_by (Ok tt) line) h e (header_valid (Ok tt) line p)),
)

-- ---- matrix lines

count_small : (i j : ℕ) (bs : List ℕ) (n : ℕ) → j - i ≤ 5 → read_count (columns i j bs) ≡ Ok n → n < 100000
count_small i j bs n few e =
    let h : length (columns i j bs) ≤ 5 = omega (arith, length-take (j - i) (drop i bs)) in
    counts_come_back.0 (columns i j bs) n h e

abbrev Small : ℕ × ℕ → Type 0
Small p = (p.0 < 100000) × (p.1 < 100000)

place_valid : (bs : List ℕ) → Gives Small (read_place bs)
place_valid bs =
    then_holds Small (read_count (columns 0 5 bs)) _ (λ row e.
    then_holds Small (check_blank (columns 5 6 bs)) _ (λ _ _.
    then_holds Small (read_count (columns 6 11 bs)) _ (λ column f.
    (count_small 0 5 bs row (lit≤ tt) e, count_small 6 11 bs column (lit≤ tt) f))))

either_gives : {A : Type 0} (P : A → Type 0) (b : Bool) (x y : Result A Fault) → Gives P x → Gives P y → Gives P (cond b x y)
either_gives P true x y p q = p
either_gives P false x y p q = q

element_valid : (bs : List ℕ) → Gives ValidElement (read_element bs)
element_valid bs = either_gives ValidElement (blank bs) (Ok None) (and_then (read_number bs) (λ value. Ok (Some value))) tt
    (then_holds ValidElement (read_number bs) (λ value. Ok (Some value)) (λ value e. numbers_come_back.0 bs value e))

abbrev Three : Number × Option Number × Option Number → Type 0
Three t = Canonical 14 t.0 × ValidElement t.1 × ValidElement t.2

elements_valid : (bs : List ℕ) → Gives Three (read_elements bs)
elements_valid bs =
    then_holds Three (check_blank (columns 0 1 bs)) _ (λ _ _.
    then_holds Three (read_number (columns 1 22 bs)) _ (λ first e.
    then_holds Three (check_blank (columns 22 23 bs)) _ (λ _ _.
    then_holds Three (read_element (columns 23 44 bs)) _ (λ second f.
    then_holds Three (check_blank (columns 44 45 bs)) _ (λ _ _.
    then_holds Three (read_element (columns 45 66 bs)) _ (λ third g.
    then_holds Three (check_blank (columns 66 68 bs)) _ (λ _ _. (
      numbers_come_back.0 (columns 1 22 bs) first e,
      given ValidElement (read_element (columns 23 44 bs)) second f (element_valid (columns 23 44 bs)),
      given ValidElement (read_element (columns 45 66 bs)) third g (element_valid (columns 45 66 bs)),
    ))))))))

pub matrix_lines_are_valid : MatrixLinesAreValid
matrix_lines_are_valid line =
    then_holds ValidMatrixLine (read_place (columns 1 12 line)) _ (λ place e.
    then_holds ValidMatrixLine (read_elements (columns 12 80 line)) _ (λ elements f.
    let (row, column) = given Small (read_place (columns 1 12 line)) place e (place_valid (columns 1 12 line)) in
    let (first, second, third) = given Three (read_elements (columns 12 80 line)) elements f (elements_valid (columns 12 80 line)) in
    record { row = row; column = column; first = first; second = second; third = third }))
