-- The lines of records and cells have 80 columns. Assumes nothing.
use Rattle.std.proofs.Common.{◌≡◌, ℕ, List, [], ◌∷◌, length, ℤ, Some, Ok, Option, refl, ap, ◌∙◌, subst}
use Rattle.codes.proofs.Phrases.{texts_come_back}
use Rattle.codes.proofs.TypeTable.{types_are_named, types_are_texts}
use Rattle.codes.specs.ParameterTypes.{type_named}
use Rattle.codes.specs.Text.{read_text}
use Rattle.codes.specs.declared.letters.Contents.{Contents}
use Rattle.codes.specs.declared.types.ParameterType.{ParameterType}
use Rattle.decimals.proofs.Meaning.{deviations_come_back, numbers_come_back}
use Rattle.decimals.specs.declared.number.Number.{Number}
use Rattle.fields.proofs.Columns.{widths_are_exact}
use Rattle.record_laws.proofs.ComeBack.{site_key_width, solution_key_width}
use Rattle.record_laws.proofs.Parts.{full_width}
use Rattle.record_laws.specs.Valid.{ValidHeader, ValidParameter, ValidParameterKey, ValidSite, ValidSolutionKey, ValidSpan}
use Rattle.headings.specs.Copies.{agencies_parts, agencies_text, header_parts, header_text}
use Rattle.headings.specs.Copies.{period_parts, period_text}
use Rattle.headings.specs.Elements.{matrix_parts, matrix_text, place_parts, place_text, single_parts, single_text}
use Rattle.headings.specs.declared.headers.Header.{Header}
use Rattle.records.specs.Copies.{epochs_parts, epochs_text, measure_parts, measure_text, parameter_key_parts, parameter_key_text, parameter_parts, parameter_text}
use Rattle.records.specs.Copies.{position_parts, position_text, site_parts, site_text, span_key_parts, span_key_text, span_parts, span_text, unit_in, unit_of}
use Rattle.records.specs.declared.parameters.Parameter.{Parameter}
use Rattle.records.specs.declared.parameters.ParameterKey.{ParameterKey}
use Rattle.records.specs.declared.sites.Site.{Site}
use Rattle.records.specs.declared.spans.Span.{Span}
use Rattle.records.specs.declared.spans.SpanKey.{SpanKey}

position_width : (x y z : ℤ) → length (position_text x y z) ≡ 36
position_width x y z = full_width (11 ∷ 1 ∷ 11 ∷ 1 ∷ 7 ∷ 5 ∷ []) (position_parts x y z) (widths_are_exact.2 x, (refl, (widths_are_exact.2 y, (refl, (widths_are_exact.3 z, (refl, tt))))))

pub site_width : (s : Site) → ValidSite s → length (site_text s) ≡ 80
site_width s v =
    let p : length (position_text s.longitude s.latitude s.height) ≡ 36 = position_width s.longitude s.latitude s.height in
    full_width (1 ∷ 7 ∷ 1 ∷ 9 ∷ 1 ∷ 1 ∷ 1 ∷ 22 ∷ 1 ∷ 36 ∷ []) (site_parts s)
    (refl, (site_key_width s.key v.key, (refl, (v.monument.size, (refl, (refl, (refl, (v.description.size, (refl, (p, tt))))))))))

span_key_width : (k : SpanKey) → ValidSolutionKey k.at → length (span_key_text k) ≡ 14
span_key_width k v = full_width (12 ∷ 1 ∷ 1 ∷ []) (span_key_parts k) (solution_key_width k.at v, (refl, (refl, tt)))

epochs_width : (s : Span) → length (epochs_text s) ≡ 65
epochs_width s = full_width (1 ∷ 12 ∷ 1 ∷ 12 ∷ 1 ∷ 12 ∷ 26 ∷ []) (epochs_parts s)
    (refl, (widths_are_exact.0 s.start, (refl, (widths_are_exact.0 s.end, (refl, (widths_are_exact.0 s.mean, (refl, tt)))))))

pub span_width : (s : Span) → ValidSpan s → length (span_text s) ≡ 80
span_width s v = full_width (1 ∷ 14 ∷ 65 ∷ []) (span_parts s) (refl, (span_key_width s.key v.at, (epochs_width s, tt)))

parameter_key_width : (k : ParameterKey) → ValidParameterKey k → length (parameter_key_text k) ≡ 33
parameter_key_width k v = full_width (1 ∷ 6 ∷ 1 ∷ 12 ∷ 1 ∷ 12 ∷ []) (parameter_key_parts k)
    (refl, (v.name.size, (refl, (solution_key_width k.at v.at, (refl, (widths_are_exact.0 k.epoch, tt))))))

measure_width : (p : Parameter) → length (measure_text p) ≡ 35
measure_width p = full_width (1 ∷ 1 ∷ 21 ∷ 1 ∷ 11 ∷ []) (measure_parts p) (refl, (refl, (numbers_come_back.2 p.value, (refl, (deviations_come_back.2 p.deviation, tt)))))

unit_width : (name : List ℕ) (t : ParameterType) → type_named name ≡ Some t → length (unit_of name) ≡ 4
unit_width name t e =
    let (named, (i, lt, is)) = types_are_named name t e in
    let u : unit_of name ≡ t.unit = ap unit_in e in
    let r : read_text 4 t.unit ≡ Ok t.unit = subst (λ (x : ParameterType). read_text 4 x.unit ≡ Ok x.unit) is (types_are_texts i lt).1 in
    ap length u ∙ (texts_come_back 4 t.unit t.unit r).0

pub parameter_width : (i : ℕ) (p : Parameter) → ValidParameter p → length (parameter_text i p) ≡ 80
parameter_width i p v =
    let u : length (unit_of p.key.name) ≡ 4 = unit_width p.key.name v.known.0 v.known.1 in
    full_width (1 ∷ 5 ∷ 33 ∷ 1 ∷ 4 ∷ 1 ∷ 35 ∷ []) (parameter_parts i p)
    (refl, (widths_are_exact.4 i, (parameter_key_width p.key v.key, (refl, (u, (refl, (measure_width p, tt)))))))

agencies_width : (h : Header) → ValidHeader h → length (agencies_text h) ≡ 21
agencies_width h v = full_width (1 ∷ 3 ∷ 1 ∷ 12 ∷ 1 ∷ 3 ∷ []) (agencies_parts h)
    (refl, (v.file.size, (refl, (widths_are_exact.1 h.created, (refl, (v.source.size, tt))))))

period_width : (h : Header) → length (period_text h) ≡ 26
period_width h = full_width (1 ∷ 12 ∷ 1 ∷ 12 ∷ []) (period_parts h) (refl, (widths_are_exact.1 h.start, (refl, (widths_are_exact.1 h.end, tt))))

pub header_width : (h : Header) (n : ℕ) (l : List (Option Contents)) → ValidHeader h → length (header_text h n l) ≡ 80
header_width h n l v = full_width (10 ∷ 21 ∷ 26 ∷ 1 ∷ 1 ∷ 1 ∷ 5 ∷ 1 ∷ 1 ∷ 13 ∷ []) (header_parts h n l)
    (refl, (agencies_width h v, (period_width h, (refl, (refl, (refl, (widths_are_exact.5 n, (refl, (refl, (refl, tt))))))))))

place_width : (i j : ℕ) → length (place_text i j) ≡ 11
place_width i j = full_width (5 ∷ 1 ∷ 5 ∷ []) (place_parts i j) (widths_are_exact.4 i, (refl, (widths_are_exact.4 j, tt)))

single_width : (v : Number) → length (single_text v) ≡ 68
single_width v = full_width (1 ∷ 21 ∷ 46 ∷ []) (single_parts v) (refl, (numbers_come_back.2 v, (refl, tt)))

pub cell_width : (i j : ℕ) (v : Number) → length (matrix_text i j v) ≡ 80
cell_width i j v = full_width (1 ∷ 11 ∷ 68 ∷ []) (matrix_parts i j v) (refl, (place_width i j, (single_width v, tt)))
