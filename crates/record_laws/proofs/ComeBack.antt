-- What is written of a valid record is read as it was. Assumes nothing.
use Rattle.std.proofs.Common.{◌≡◌, ℕ, ◌<◌, List, [], ◌∷◌, length, get_or, ℤ, Some, None, Ok, Option, Result, sym, refl, ap, ◌∙◌, subst}
use Rattle.refusals.specs.declared.Fault.{Fault}
use Rattle.decimals.specs.Write.{Canonical}
use Rattle.decimals.specs.declared.number.Number.{Number}
use Rattle.headings.specs.Elements.{read_place, read_elements, place_parts, place_text, single_parts, single_text, matrix_parts, matrix_text}
use Rattle.record_laws.specs.MatrixLaws.{CellsComeBack}
use Rattle.codes.specs.Codes.{read_technique, technique_letter}
use Rattle.codes.specs.Text.{read_text, read_description, check_blank}
use Rattle.codes.specs.declared.letters.Technique.{Technique}
use Rattle.codes.proofs.Spellings.{codes_come_back}
use Rattle.fields.specs.Angle.{columns, read_longitude, read_latitude, read_height}
use Rattle.fields.proofs.Columns.{widths_are_exact}
use Rattle.fields.proofs.Degrees.{longitudes_come_back, latitudes_come_back, heights_come_back}
use Rattle.records.specs.Copies.{site_key_parts, site_key_text, solution_key_parts, solution_key_text, position_parts, position_text, site_parts, site_text}
use Rattle.records.specs.Keys.{read_site_key, read_solution_key}
use Rattle.records.specs.Sites.{read_position}
use Rattle.record_laws.specs.Valid.{SitesComeBack, ValidSiteKey, ValidSolutionKey, ValidPosition, ValidSite}
use Rattle.records.specs.declared.keys.SiteKey.{SiteKey}
use Rattle.records.specs.declared.keys.SolutionKey.{SolutionKey}
use Rattle.records.specs.declared.sites.Site.{Site}
use Rattle.codes.specs.Codes.{read_constraint, constraint_digit, place_letter}
use Rattle.codes.specs.ParameterTypes.{type_named, check_type}
use Rattle.codes.specs.declared.letters.Constraint.{Constraint}
use Rattle.codes.specs.declared.letters.Contents.{Contents}
use Rattle.codes.specs.declared.types.ParameterType.{ParameterType}
use Rattle.codes.proofs.Phrases.{texts_come_back}
use Rattle.codes.proofs.TypeTable.{types_come_back, types_are_named, types_are_texts}
use Rattle.decimals.specs.Number.{read_number, read_deviation}
use Rattle.decimals.proofs.Meaning.{numbers_come_back, deviations_come_back}
use Rattle.fields.specs.Count.{read_count}
use Rattle.fields.specs.Epoch.{read_epoch, read_moment}
use Rattle.fields.proofs.Degrees.{counts_come_back}
use Rattle.fields.proofs.Stamps.{epochs_come_back, moments_come_back}
use Rattle.headings.specs.Copies.{agencies_parts, agencies_text, period_parts, period_text, letter_text, letters_text, header_parts, header_text}
use Rattle.headings.specs.Headers.{read_agencies, read_period, check_letter, check_letters, read_header_by}
use Rattle.headings.specs.Lines.{and_then}
use Rattle.records.specs.Copies.{span_key_parts, span_key_text, epochs_parts, epochs_text, span_parts, span_text, parameter_key_parts, parameter_key_text, measure_parts, measure_text, unit_in, unit_of, parameter_parts, parameter_text}
use Rattle.records.specs.Parameters.{read_parameter_key, read_measure, read_parameter, read_index}
use Rattle.records.specs.Spans.{read_span_key, read_epochs}
use Rattle.record_laws.specs.Valid.{ValidSpan, ValidParameterKey, ValidParameter, ValidHeader, SpansComeBack, ParametersComeBack, HeadersComeBack}
use Rattle.headings.specs.declared.headers.Header.{Header}
use Rattle.records.specs.declared.parameters.ParameterKey.{ParameterKey}
use Rattle.records.specs.declared.parameters.Parameter.{Parameter}
use Rattle.records.specs.declared.spans.SpanKey.{SpanKey}
use Rattle.records.specs.declared.spans.Span.{Span}
use Rattle.record_laws.proofs.Parts.{then_step, Fits, part_at, full_width}

-- ---- keys

site_key_fits : (k : SiteKey) → ValidSiteKey k → Fits (4 ∷ 1 ∷ 2 ∷ []) (site_key_parts k)
site_key_fits k v = (v.code.size, (refl, (v.point.size, tt)))

pub site_key_width : (k : SiteKey) → ValidSiteKey k → length (site_key_text k) ≡ 7
site_key_width k v = full_width (4 ∷ 1 ∷ 2 ∷ []) (site_key_parts k) (site_key_fits k v)

pub site_key_back : (k : SiteKey) → ValidSiteKey k → read_site_key (site_key_text k) ≡ Ok k
site_key_back k v =
    let at = part_at (4 ∷ 1 ∷ 2 ∷ []) (site_key_parts k) (site_key_fits k v) in
    then_step (read_text 4 (columns 0 4 (site_key_text k))) k.code _ (ap (read_text 4) (at 0) ∙ v.code.stable) (
    then_step (check_blank (columns 4 5 (site_key_text k))) tt _ (ap check_blank (at 1)) (
    then_step (read_text 2 (columns 5 7 (site_key_text k))) k.point _ (ap (read_text 2) (at 2) ∙ v.point.stable)
    refl))

solution_key_fits : (k : SolutionKey) → ValidSolutionKey k → Fits (7 ∷ 1 ∷ 4 ∷ []) (solution_key_parts k)
solution_key_fits k v = (site_key_width k.site v.site, (refl, (v.solution.size, tt)))

pub solution_key_width : (k : SolutionKey) → ValidSolutionKey k → length (solution_key_text k) ≡ 12
solution_key_width k v = full_width (7 ∷ 1 ∷ 4 ∷ []) (solution_key_parts k) (solution_key_fits k v)

pub solution_key_back : (k : SolutionKey) → ValidSolutionKey k → read_solution_key (solution_key_text k) ≡ Ok k
solution_key_back k v =
    let at = part_at (7 ∷ 1 ∷ 4 ∷ []) (solution_key_parts k) (solution_key_fits k v) in
    then_step (read_site_key (columns 0 7 (solution_key_text k))) k.site _ (ap read_site_key (at 0) ∙ site_key_back k.site v.site) (
    then_step (check_blank (columns 7 8 (solution_key_text k))) tt _ (ap check_blank (at 1)) (
    then_step (read_text 4 (columns 8 12 (solution_key_text k))) k.solution _ (ap (read_text 4) (at 2) ∙ v.solution.stable)
    refl))

technique_back : (t : Technique) → read_technique (technique_letter t ∷ []) ≡ Ok t
technique_back t = (codes_come_back.0 (technique_letter t ∷ []) t).1 refl

constraint_back : (t : Constraint) → read_constraint (constraint_digit t ∷ []) ≡ Ok t
constraint_back t = (codes_come_back.1 (constraint_digit t ∷ []) t).1 refl

-- ---- sites

position-fits : (x y z : ℤ) → Fits (11 ∷ 1 ∷ 11 ∷ 1 ∷ 7 ∷ 5 ∷ []) (position_parts x y z)
position-fits x y z = (widths_are_exact.2 x, (refl, (widths_are_exact.2 y, (refl, (widths_are_exact.3 z, (refl, tt))))))

position-back : (x y z : ℤ) → ValidPosition (x, y, z) → read_position (position_text x y z) ≡ Ok (x, y, z)
position-back x y z v =
    let at = part_at (11 ∷ 1 ∷ 11 ∷ 1 ∷ 7 ∷ 5 ∷ []) (position_parts x y z) (position-fits x y z) in
    then_step (read_longitude (columns 0 11 (position_text x y z))) x _ (ap read_longitude (at 0) ∙ longitudes_come_back.1 x v.longitude.0 v.longitude.1) (
    then_step (check_blank (columns 11 12 (position_text x y z))) tt _ (ap check_blank (at 1)) (
    then_step (read_latitude (columns 12 23 (position_text x y z))) y _ (ap read_latitude (at 2) ∙ latitudes_come_back.1 y v.latitude) (
    then_step (check_blank (columns 23 24 (position_text x y z))) tt _ (ap check_blank (at 3)) (
    then_step (read_height (columns 24 31 (position_text x y z))) z _ (ap read_height (at 4) ∙ heights_come_back.1 z v.height.0 v.height.1) (
    then_step (check_blank (columns 31 36 (position_text x y z))) tt _ (ap check_blank (at 5))
    refl)))))

site-fits : (s : Site) → ValidSite s → Fits (1 ∷ 7 ∷ 1 ∷ 9 ∷ 1 ∷ 1 ∷ 1 ∷ 22 ∷ 1 ∷ 36 ∷ []) (site_parts s)
site-fits s v = (
  refl,
  (
    site_key_width s.key v.key,
    (
      refl,
      (
        v.monument.size,
        (
          refl,
          (
            refl,
            (
              refl,
              (
                v.description.size,
                (
                  refl,
                  (full_width (11 ∷ 1 ∷ 11 ∷ 1 ∷ 7 ∷ 5 ∷ []) (position_parts s.longitude s.latitude s.height) (position-fits s.longitude s.latitude s.height), tt),
                ),
              ),
            ),
          ),
        ),
      ),
    ),
  ),
)

pub sites_come_back : SitesComeBack
sites_come_back s v =
    let at = part_at (1 ∷ 7 ∷ 1 ∷ 9 ∷ 1 ∷ 1 ∷ 1 ∷ 22 ∷ 1 ∷ 36 ∷ []) (site_parts s) (site-fits s v) in
    then_step (read_site_key (columns 1 8 (site_text s))) s.key _ (ap read_site_key (at 1) ∙ site_key_back s.key v.key) (
    then_step (check_blank (columns 8 9 (site_text s))) tt _ (ap check_blank (at 2)) (
    then_step (read_text 9 (columns 9 18 (site_text s))) s.monument _ (ap (read_text 9) (at 3) ∙ v.monument.stable) (
    then_step (check_blank (columns 18 19 (site_text s))) tt _ (ap check_blank (at 4)) (
    then_step (read_technique (columns 19 20 (site_text s))) s.technique _ (ap read_technique (at 5) ∙ technique_back s.technique) (
    then_step (check_blank (columns 20 21 (site_text s))) tt _ (ap check_blank (at 6)) (
    then_step (read_description 22 (columns 21 43 (site_text s))) s.description _ (ap (read_description 22) (at 7) ∙ v.description.stable) (
    then_step (check_blank (columns 43 44 (site_text s))) tt _ (ap check_blank (at 8)) (
    then_step (read_position (columns 44 80 (site_text s))) (s.longitude, s.latitude, s.height) _ (ap read_position (at 9) ∙ position-back s.longitude s.latitude s.height v.position)
    refl))))))))

-- ---- spans

span_key_fits : (k : SpanKey) → ValidSolutionKey k.at → Fits (12 ∷ 1 ∷ 1 ∷ []) (span_key_parts k)
span_key_fits k v = (solution_key_width k.at v, (refl, (refl, tt)))

span_key_back : (k : SpanKey) → ValidSolutionKey k.at → read_span_key (span_key_text k) ≡ Ok k
span_key_back k v =
    let at = part_at (12 ∷ 1 ∷ 1 ∷ []) (span_key_parts k) (span_key_fits k v) in
    then_step (read_solution_key (columns 0 12 (span_key_text k))) k.at _ (ap read_solution_key (at 0) ∙ solution_key_back k.at v) (
    then_step (check_blank (columns 12 13 (span_key_text k))) tt _ (ap check_blank (at 1)) (
    then_step (read_technique (columns 13 14 (span_key_text k))) k.technique _ (ap read_technique (at 2) ∙ technique_back k.technique)
    refl))

epochs_fits : (s : Span) → Fits (1 ∷ 12 ∷ 1 ∷ 12 ∷ 1 ∷ 12 ∷ 26 ∷ []) (epochs_parts s)
epochs_fits s = (refl, (widths_are_exact.0 s.start, (refl, (widths_are_exact.0 s.end, (refl, (widths_are_exact.0 s.mean, (refl, tt)))))))

epochs_back : (s : Span) → ValidSpan s → read_epochs (epochs_text s) ≡ Ok (s.start, s.end, s.mean)
epochs_back s v =
    let at = part_at (1 ∷ 12 ∷ 1 ∷ 12 ∷ 1 ∷ 12 ∷ 26 ∷ []) (epochs_parts s) (epochs_fits s) in
    then_step (read_epoch (columns 1 13 (epochs_text s))) s.start _ (ap read_epoch (at 1) ∙ epochs_come_back.1 s.start v.start) (
    then_step (check_blank (columns 13 14 (epochs_text s))) tt _ (ap check_blank (at 2)) (
    then_step (read_epoch (columns 14 26 (epochs_text s))) s.end _ (ap read_epoch (at 3) ∙ epochs_come_back.1 s.end v.end) (
    then_step (check_blank (columns 26 27 (epochs_text s))) tt _ (ap check_blank (at 4)) (
    then_step (read_epoch (columns 27 39 (epochs_text s))) s.mean _ (ap read_epoch (at 5) ∙ epochs_come_back.1 s.mean v.mean) (
    then_step (check_blank (columns 39 65 (epochs_text s))) tt _ (ap check_blank (at 6))
    refl)))))

span_fits : (s : Span) → ValidSpan s → Fits (1 ∷ 14 ∷ 65 ∷ []) (span_parts s)
span_fits s v = (
  refl,
  (
    full_width (12 ∷ 1 ∷ 1 ∷ []) (span_key_parts s.key) (span_key_fits s.key v.at),
    (full_width (1 ∷ 12 ∷ 1 ∷ 12 ∷ 1 ∷ 12 ∷ 26 ∷ []) (epochs_parts s) (epochs_fits s), tt),
  ),
)

pub spans_come_back : SpansComeBack
spans_come_back s v =
    let at = part_at (1 ∷ 14 ∷ 65 ∷ []) (span_parts s) (span_fits s v) in
    then_step (read_span_key (columns 1 15 (span_text s))) s.key _ (ap read_span_key (at 1) ∙ span_key_back s.key v.at) (
    then_step (read_epochs (columns 15 80 (span_text s))) (s.start, s.end, s.mean) _ (ap read_epochs (at 2) ∙ epochs_back s v)
    refl)

-- ---- parameters

parameter_key_fits : (k : ParameterKey) → ValidParameterKey k → Fits (1 ∷ 6 ∷ 1 ∷ 12 ∷ 1 ∷ 12 ∷ []) (parameter_key_parts k)
parameter_key_fits k v = (refl, (v.name.size, (refl, (solution_key_width k.at v.at, (refl, (widths_are_exact.0 k.epoch, tt))))))

parameter_key_back : (k : ParameterKey) → ValidParameterKey k → read_parameter_key (parameter_key_text k) ≡ Ok k
parameter_key_back k v =
    let at = part_at (1 ∷ 6 ∷ 1 ∷ 12 ∷ 1 ∷ 12 ∷ []) (parameter_key_parts k) (parameter_key_fits k v) in
    then_step (read_text 6 (columns 1 7 (parameter_key_text k))) k.name _ (ap (read_text 6) (at 1) ∙ v.name.stable) (
    then_step (check_blank (columns 7 8 (parameter_key_text k))) tt _ (ap check_blank (at 2)) (
    then_step (read_solution_key (columns 8 20 (parameter_key_text k))) k.at _ (ap read_solution_key (at 3) ∙ solution_key_back k.at v.at) (
    then_step (check_blank (columns 20 21 (parameter_key_text k))) tt _ (ap check_blank (at 4)) (
    then_step (read_epoch (columns 21 33 (parameter_key_text k))) k.epoch _ (ap read_epoch (at 5) ∙ epochs_come_back.1 k.epoch v.epoch)
    refl))))

measure_fits : (p : Parameter) → Fits (1 ∷ 1 ∷ 21 ∷ 1 ∷ 11 ∷ []) (measure_parts p)
measure_fits p = (refl, (refl, (numbers_come_back.2 p.value, (refl, (deviations_come_back.2 p.deviation, tt)))))

measure_back : (p : Parameter) → ValidParameter p → read_measure (measure_text p) ≡ Ok (p.constraint, p.value, p.deviation)
measure_back p v =
    let at = part_at (1 ∷ 1 ∷ 21 ∷ 1 ∷ 11 ∷ []) (measure_parts p) (measure_fits p) in
    then_step (read_constraint (columns 0 1 (measure_text p))) p.constraint _ (ap read_constraint (at 0) ∙ constraint_back p.constraint) (
    then_step (read_number (columns 2 23 (measure_text p))) p.value _ (ap read_number (at 2) ∙ numbers_come_back.1 p.value v.value) (
    then_step (read_deviation (columns 24 35 (measure_text p))) p.deviation _ (ap read_deviation (at 4) ∙ deviations_come_back.1 p.deviation v.deviation)
    refl))

-- a type of the table has a unit, and that unit is its own
record UnitKnown (name : List ℕ) (t : ParameterType) : Type 0 where
  size : length (unit_of name) ≡ 4
  stable : read_text 4 (unit_of name) ≡ Ok (unit_of name)
  own : check_type name (unit_of name) ≡ Ok t

unit_known : (name : List ℕ) (t : ParameterType) → type_named name ≡ Some t → UnitKnown name t
unit_known name t e =
    let (named, (i, lt, is)) = types_are_named name t e in
    let u : unit_of name ≡ t.unit = ap unit_in e in
    let r : read_text 4 t.unit ≡ Ok t.unit = subst (λ (x : ParameterType). read_text 4 x.unit ≡ Ok x.unit) is (types_are_texts i lt).1 in
    let k : check_type t.name t.unit ≡ Ok t = subst (λ (x : ParameterType). check_type x.name x.unit ≡ Ok x) is (types_come_back i lt).1 in
    let m : check_type name t.unit ≡ Ok t = subst (λ n. check_type n t.unit ≡ Ok t) named k in
    record {
      size = subst (λ x. length x ≡ 4) (sym u) (texts_come_back 4 t.unit t.unit r).0;
      stable = subst (λ x. read_text 4 x ≡ Ok x) (sym u) r;
      own = subst (λ x. check_type name x ≡ Ok t) (sym u) m;
    }

parameter_fits : (n : ℕ) (p : Parameter) → ValidParameter p → Fits (1 ∷ 5 ∷ 33 ∷ 1 ∷ 4 ∷ 1 ∷ 35 ∷ []) (parameter_parts n p)
parameter_fits n p v = (
  refl,
  (
    widths_are_exact.4 n,
    (
      full_width (1 ∷ 6 ∷ 1 ∷ 12 ∷ 1 ∷ 12 ∷ []) (parameter_key_parts p.key) (parameter_key_fits p.key v.key),
      (refl, ((unit_known p.key.name v.known.0 v.known.1).size, (refl, (full_width (1 ∷ 1 ∷ 21 ∷ 1 ∷ 11 ∷ []) (measure_parts p) (measure_fits p), tt)))),
    ),
  ),
)

parameter_back : (n : ℕ) (p : Parameter) → ValidParameter p → read_parameter (parameter_text n p) ≡ Ok p
parameter_back n p v =
    let at = part_at (1 ∷ 5 ∷ 33 ∷ 1 ∷ 4 ∷ 1 ∷ 35 ∷ []) (parameter_parts n p) (parameter_fits n p v) in
    let u : UnitKnown p.key.name v.known.0 = unit_known p.key.name v.known.0 v.known.1 in
    then_step (read_parameter_key (columns 6 39 (parameter_text n p))) p.key _ (ap read_parameter_key (at 2) ∙ parameter_key_back p.key v.key) (
    then_step (check_blank (columns 39 40 (parameter_text n p))) tt _ (ap check_blank (at 3)) (
    then_step (read_text 4 (columns 40 44 (parameter_text n p))) (unit_of p.key.name) _ (ap (read_text 4) (at 4) ∙ u.stable) (
    then_step (check_blank (columns 44 45 (parameter_text n p))) tt _ (ap check_blank (at 5)) (
    then_step (read_measure (columns 45 80 (parameter_text n p))) (p.constraint, p.value, p.deviation) _ (ap read_measure (at 6) ∙ measure_back p v) (
    then_step (check_type p.key.name (unit_of p.key.name)) v.known.0 _ u.own
    refl)))))

pub parameters_come_back : ParametersComeBack
parameters_come_back n p v = (
  parameter_back n p v,
  λ small.
      let at = part_at (1 ∷ 5 ∷ 33 ∷ 1 ∷ 4 ∷ 1 ∷ 35 ∷ []) (parameter_parts n p) (parameter_fits n p v) in
      then_step (read_index (parameter_text n p)) n _ (ap read_count (at 1) ∙ (counts_come_back.1 n small).0) (
      then_step (read_parameter (parameter_text n p)) p _ (parameter_back n p v)
      refl),
)

-- ---- headers

agencies_fits : (h : Header) → ValidHeader h → Fits (1 ∷ 3 ∷ 1 ∷ 12 ∷ 1 ∷ 3 ∷ []) (agencies_parts h)
agencies_fits h v = (refl, (v.file.size, (refl, (widths_are_exact.1 h.created, (refl, (v.source.size, tt))))))

agencies_back : (h : Header) → ValidHeader h → read_agencies (agencies_text h) ≡ Ok (h.file_agency, h.created, h.data_agency)
agencies_back h v =
    let at = part_at (1 ∷ 3 ∷ 1 ∷ 12 ∷ 1 ∷ 3 ∷ []) (agencies_parts h) (agencies_fits h v) in
    then_step (read_text 3 (columns 1 4 (agencies_text h))) h.file_agency _ (ap (read_text 3) (at 1) ∙ v.file.stable) (
    then_step (check_blank (columns 4 5 (agencies_text h))) tt _ (ap check_blank (at 2)) (
    then_step (read_moment (columns 5 17 (agencies_text h))) h.created _ (ap read_moment (at 3) ∙ moments_come_back.1 h.created v.created) (
    then_step (check_blank (columns 17 18 (agencies_text h))) tt _ (ap check_blank (at 4)) (
    then_step (read_text 3 (columns 18 21 (agencies_text h))) h.data_agency _ (ap (read_text 3) (at 5) ∙ v.source.stable)
    refl))))

period_fits : (h : Header) → Fits (1 ∷ 12 ∷ 1 ∷ 12 ∷ []) (period_parts h)
period_fits h = (refl, (widths_are_exact.1 h.start, (refl, (widths_are_exact.1 h.end, tt))))

period_back : (h : Header) → ValidHeader h → read_period (period_text h) ≡ Ok (h.start, h.end)
period_back h v =
    let at = part_at (1 ∷ 12 ∷ 1 ∷ 12 ∷ []) (period_parts h) (period_fits h) in
    then_step (read_moment (columns 1 13 (period_text h))) h.start _ (ap read_moment (at 1) ∙ moments_come_back.1 h.start v.start) (
    then_step (read_moment (columns 14 26 (period_text h))) h.end _ (ap read_moment (at 3) ∙ moments_come_back.1 h.end v.end)
    refl)

letter-back : (i : ℕ) (l : List (Option Contents)) → check_letter (letter_text i l) ≡ Ok tt
letter-back i l = ap (λ r. and_then r (λ (_ : Option Contents). Ok tt)) ((codes_come_back.2 (place_letter (get_or l i None) ∷ []) (get_or l i None)).1 refl)

letters-back : (l : List (Option Contents)) → check_letters (letters_text l) ≡ Ok tt
letters-back l =
    then_step (check_letter (letter_text 0 l)) tt _ (letter-back 0 l) (
    then_step (check_letter (letter_text 1 l)) tt _ (letter-back 1 l) (
    then_step (check_letter (letter_text 2 l)) tt _ (letter-back 2 l) (
    then_step (check_letter (letter_text 3 l)) tt _ (letter-back 3 l) (
    then_step (check_letter (letter_text 4 l)) tt _ (letter-back 4 l) (
    then_step (check_letter (letter_text 5 l)) tt _ (letter-back 5 l)
    refl)))))

header-fits : (h : Header) (n : ℕ) (l : List (Option Contents)) → ValidHeader h → Fits (10 ∷ 21 ∷ 26 ∷ 1 ∷ 1 ∷ 1 ∷ 5 ∷ 1 ∷ 1 ∷ 13 ∷ []) (header_parts h n l)
header-fits h n l v = (
  refl,
  (
    full_width (1 ∷ 3 ∷ 1 ∷ 12 ∷ 1 ∷ 3 ∷ []) (agencies_parts h) (agencies_fits h v),
    (
      full_width (1 ∷ 12 ∷ 1 ∷ 12 ∷ []) (period_parts h) (period_fits h),
      (refl, (refl, (refl, (widths_are_exact.5 n, (refl, (refl, (refl, tt))))))),
    ),
  ),
)

header-back : {C : Type 0} (counted : Result C Fault) (m : C) (h : Header) (n : ℕ) (l : List (Option Contents)) → ValidHeader h → counted ≡ Ok m → read_header_by counted (header_text h n l) ≡ Ok (h, m)
header-back counted m h n l v e =
    let at = part_at (10 ∷ 21 ∷ 26 ∷ 1 ∷ 1 ∷ 1 ∷ 5 ∷ 1 ∷ 1 ∷ 13 ∷ []) (header_parts h n l) (header-fits h n l v) in
    then_step (read_agencies (columns 10 31 (header_text h n l))) (h.file_agency, h.created, h.data_agency) _ (ap read_agencies (at 1) ∙ agencies_back h v) (
    then_step (read_period (columns 31 57 (header_text h n l))) (h.start, h.end) _ (ap read_period (at 2) ∙ period_back h v) (
    then_step (check_blank (columns 57 58 (header_text h n l))) tt _ (ap check_blank (at 3)) (
    then_step (read_technique (columns 58 59 (header_text h n l))) h.technique _ (ap read_technique (at 4) ∙ technique_back h.technique) (
    then_step (check_blank (columns 59 60 (header_text h n l))) tt _ (ap check_blank (at 5)) (
    then_step counted m _ e (
    then_step (check_blank (columns 65 66 (header_text h n l))) tt _ (ap check_blank (at 7)) (
    then_step (read_constraint (columns 66 67 (header_text h n l))) h.constraint _ (ap read_constraint (at 8) ∙ constraint_back h.constraint) (
    then_step (check_letters (columns 67 80 (header_text h n l))) tt _ (ap check_letters (at 9) ∙ letters-back l)
    refl))))))))

pub headers_come_back : HeadersComeBack
headers_come_back h n l v =
    let at = part_at (10 ∷ 21 ∷ 26 ∷ 1 ∷ 1 ∷ 1 ∷ 5 ∷ 1 ∷ 1 ∷ 13 ∷ []) (header_parts h n l) (header-fits h n l v) in (
      then_step (read_header_by (Ok tt) (header_text h n l)) (h, tt) _ (header-back (Ok tt) tt h n l v refl) refl,
      λ small. header-back (read_count (columns 60 65 (header_text h n l))) n h n l v (ap read_count (at 6) ∙ (counts_come_back.1 n small).1),
    )

-- ---- cells

place-fits : (i j : ℕ) → Fits (5 ∷ 1 ∷ 5 ∷ []) (place_parts i j)
place-fits i j = (widths_are_exact.4 i, (refl, (widths_are_exact.4 j, tt)))

place-back : (i j : ℕ) → i < 100000 → j < 100000 → read_place (place_text i j) ≡ Ok (i, j)
place-back i j li lj =
    let at = part_at (5 ∷ 1 ∷ 5 ∷ []) (place_parts i j) (place-fits i j) in
    then_step (read_count (columns 0 5 (place_text i j))) i _ (ap read_count (at 0) ∙ (counts_come_back.1 i li).0) (
    then_step (check_blank (columns 5 6 (place_text i j))) tt _ (ap check_blank (at 1)) (
    then_step (read_count (columns 6 11 (place_text i j))) j _ (ap read_count (at 2) ∙ (counts_come_back.1 j lj).0)
    refl))

single_fits : (n : Number) → Fits (1 ∷ 21 ∷ 46 ∷ []) (single_parts n)
single_fits n = (refl, (numbers_come_back.2 n, (refl, tt)))

single_back : (n : Number) → Canonical 14 n → read_elements (single_text n) ≡ Ok (n, None, None)
single_back n v =
    let at = part_at (1 ∷ 21 ∷ 46 ∷ []) (single_parts n) (single_fits n) in
    then_step (read_number (columns 1 22 (single_text n))) n _ (ap read_number (at 1) ∙ numbers_come_back.1 n v)
    refl

pub cells_come_back : CellsComeBack
cells_come_back i j n li lj v =
    let f : Fits (1 ∷ 11 ∷ 68 ∷ []) (matrix_parts i j n) =
    (refl, (full_width (5 ∷ 1 ∷ 5 ∷ []) (place_parts i j) (place-fits i j), (full_width (1 ∷ 21 ∷ 46 ∷ []) (single_parts n) (single_fits n), tt))) in
    let at = part_at (1 ∷ 11 ∷ 68 ∷ []) (matrix_parts i j n) f in
    then_step (read_place (columns 1 12 (matrix_text i j n))) (i, j) _ (ap read_place (at 1) ∙ place-back i j li lj) (
    then_step (read_elements (columns 12 80 (matrix_text i j n))) (n, None, None) _ (ap read_elements (at 2) ∙ single_back n v)
    refl)
