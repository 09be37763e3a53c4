-- The lines of a fair copy, as their 80 columns: the parts of each line one after another. Here sites, spans and parameters.
use Rattle.std.specs.Prelude.{ℕ, List, [], ◌∷◌, ℤ, Some, None, Option}
use Rattle.codes.specs.Codes.{technique_letter, constraint_digit}
use Rattle.codes.specs.ParameterTypes.{type_named}
use Rattle.codes.specs.declared.types.ParameterType.{ParameterType}
use Rattle.decimals.specs.Write.{number_text, deviation_text}
use Rattle.fields.specs.Angle.{angle_text, height_text}
use Rattle.fields.specs.Count.{index_text}
use Rattle.fields.specs.Epoch.{epoch_text}
use Rattle.headings.specs.Copies.{joined, blanks}
use Rattle.records.specs.declared.keys.SiteKey.{SiteKey}
use Rattle.records.specs.declared.keys.SolutionKey.{SolutionKey}
use Rattle.records.specs.declared.parameters.ParameterKey.{ParameterKey}
use Rattle.records.specs.declared.parameters.Parameter.{Parameter}
use Rattle.records.specs.declared.sites.Site.{Site}
use Rattle.records.specs.declared.spans.SpanKey.{SpanKey}
use Rattle.records.specs.declared.spans.Span.{Span}

abbrev pub site_key_parts : SiteKey → List (List ℕ)
site_key_parts k = k.code ∷ blanks 1 ∷ k.point ∷ []

abbrev pub site_key_text : SiteKey → List ℕ
site_key_text k = joined (site_key_parts k)

abbrev pub solution_key_parts : SolutionKey → List (List ℕ)
solution_key_parts k = site_key_text k.site ∷ blanks 1 ∷ k.solution ∷ []

abbrev pub solution_key_text : SolutionKey → List ℕ
solution_key_text k = joined (solution_key_parts k)

abbrev pub position_parts : ℤ → ℤ → ℤ → List (List ℕ)
position_parts longitude latitude height = angle_text longitude ∷ blanks 1 ∷ angle_text latitude ∷ blanks 1 ∷ height_text height ∷ blanks 5 ∷ []

abbrev pub position_text : ℤ → ℤ → ℤ → List ℕ
position_text longitude latitude height = joined (position_parts longitude latitude height)

abbrev pub site_parts : Site → List (List ℕ)
site_parts s = blanks 1 ∷ site_key_text s.key ∷ blanks 1 ∷ s.monument ∷ blanks 1 ∷ (technique_letter s.technique ∷ []) ∷ blanks 1 ∷ s.description ∷ blanks 1
    ∷ position_text s.longitude s.latitude s.height ∷ []

abbrev pub site_text : Site → List ℕ
site_text s = joined (site_parts s)

abbrev pub span_key_parts : SpanKey → List (List ℕ)
span_key_parts k = solution_key_text k.at ∷ blanks 1 ∷ (technique_letter k.technique ∷ []) ∷ []

abbrev pub span_key_text : SpanKey → List ℕ
span_key_text k = joined (span_key_parts k)

abbrev pub epochs_parts : Span → List (List ℕ)
epochs_parts s = blanks 1 ∷ epoch_text s.start ∷ blanks 1 ∷ epoch_text s.end ∷ blanks 1 ∷ epoch_text s.mean ∷ blanks 26 ∷ []

abbrev pub epochs_text : Span → List ℕ
epochs_text s = joined (epochs_parts s)

abbrev pub span_parts : Span → List (List ℕ)
span_parts s = blanks 1 ∷ span_key_text s.key ∷ epochs_text s ∷ []

abbrev pub span_text : Span → List ℕ
span_text s = joined (span_parts s)

abbrev pub parameter_key_parts : ParameterKey → List (List ℕ)
parameter_key_parts k = blanks 1 ∷ k.name ∷ blanks 1 ∷ solution_key_text k.at ∷ blanks 1 ∷ epoch_text k.epoch ∷ []

abbrev pub parameter_key_text : ParameterKey → List ℕ
parameter_key_text k = joined (parameter_key_parts k)

abbrev pub measure_parts : Parameter → List (List ℕ)
measure_parts p = (constraint_digit p.constraint ∷ []) ∷ blanks 1 ∷ number_text p.value ∷ blanks 1 ∷ deviation_text p.deviation ∷ []

abbrev pub measure_text : Parameter → List ℕ
measure_text p = joined (measure_parts p)

-- the unit of a type; blank where there is none
abbrev pub unit_in : Option ParameterType → List ℕ
unit_in (Some t) = t.unit
unit_in None = blanks 4

abbrev pub unit_of : List ℕ → List ℕ
unit_of name = unit_in (type_named name)

-- with its index
abbrev pub parameter_parts : ℕ → Parameter → List (List ℕ)
parameter_parts index p = blanks 1 ∷ index_text index ∷ parameter_key_text p.key ∷ blanks 1 ∷ unit_of p.key.name ∷ blanks 1 ∷ measure_text p ∷ []

abbrev pub parameter_text : ℕ → Parameter → List ℕ
parameter_text index p = joined (parameter_parts index p)
